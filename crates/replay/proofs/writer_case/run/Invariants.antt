-- Each call lies after the last.
use Rattle.script.specs.Onward.{Onward}
use Rattle.replay.proofs.writer_case.run.Given as goal

abbrev pub invariant-loop : goal.invariant-loop
invariant-loop l = Onward l.fn.script l.script
