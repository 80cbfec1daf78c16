-- The letter, and the number behind it.
use Rattle.std.proofs.Common.{[], ◌∷◌}
use Rattle.lines.specs.Put.{number}
use Rattle.lines.proofs.Laws.{put_both}
use Rattle.lines.proofs.Printer.put_letter.Goals as goal

pub returns : goal.returns
returns c = put_both _ (_ ∷ []) (number _) c.put_byte.ensures c.put_number.ensures
