-- The letter, and the line's four numbers behind it.
use Rattle.std.proofs.Common.{refl}
use Rattle.script.proofs.Laws.{line_first, line_more, line_last}
use Rattle.script.proofs.Script.read_tree_line.Goals as goal

pub returns : goal.returns
returns c = (
  _,
  c.meant.ensures,
  (
    _,
    c.in_ok-read_byte.ensures,
    line_first _ _ _ c.in_ok-lists.ensures refl
        (line_more _ _ _ c.in_ok-threshold.ensures refl
        (line_more _ _ _ c.in_ok-first.ensures refl
        (line_last c.in_ok-paths.ensures refl))),
  ),
)
