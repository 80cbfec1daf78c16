-- The case's first line is put, and behind it the place is within the block; each call's line leaves it there.
use Rattle.lines.proofs.Laws.{some_within}
use Rattle.replay_reader.proofs.put_case.Goals as goal

pub loop-init : goal.loop-init
loop-init c = rw c.put_bytes.ensures (some_within _ _ _)
