-- Each case is read from what the last one left, which is less.
use Rattle.script.proofs.Laws.{onward_both, onward_byte, onward_shorter}
use Rattle.replay.proofs.run_script.Goals as goal

pub loop-letter-smaller : goal.loop-letter-smaller
loop-letter-smaller c = onward_shorter (onward_both (onward_byte _ c.in-Some.ensures) c.in_ok-run_case.ensures)
