-- The line's end is put last, and behind it the place is within the block.
use Rattle.std.proofs.Common.{[]}
use Rattle.lines.proofs.Laws.{some_within}
use Rattle.replay_reader.proofs.put_finished.Goals as goal

pub returns : goal.returns
returns c = rw c.put_byte.ensures (some_within _ _ [])
