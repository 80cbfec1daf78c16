-- The line's two numbers, and the atom behind them.
use Rattle.std.proofs.Common.{refl}
use Rattle.script.proofs.Laws.{line_first, line_last}
use Rattle.script.proofs.Script.read_atom_call.Goals as goal

pub returns : goal.returns
returns c =
    (_, c.meant.ensures, (_, refl, line_first _ _ _ c.in_ok-len.ensures c.in_ok-atom.ensures.len (line_last c.in_ok-number.ensures c.in_ok-atom.ensures.front)))
