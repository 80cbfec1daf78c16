-- Each case is read from what the last one left, which is less.
use Rattle.std.proofs.Common.{length}
use Rattle.replay.proofs.run_script.Given as goal

abbrev pub decreases-loop-letter : goal.decreases-loop-letter
decreases-loop-letter l = length l.script
