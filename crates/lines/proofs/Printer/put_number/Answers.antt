-- The space, and the digits behind it.
use Rattle.std.proofs.Common.{[], ◌∷◌}
use Rattle.lines.specs.Put.{decimal, number}
use Rattle.lines.proofs.Laws.{put_both}
use Rattle.lines.proofs.Printer.put_number.Goals as goal

pub returns : goal.returns
unfolding number
returns c = put_both _ (32 ∷ []) (decimal _) c.put_byte.ensures c.put_decimal.ensures
