-- The rest of the text from the atom on is all of it, so its check is the atom's.
use Prim.Native.Nat.{◌-◌}
use native.Mathlib.Omega.{arith}
use lib.ListN.{length, drop, length-drop}
use lib.Seq.{take_all}
use Rattle.sise_tree.proofs.parse.kind_at.Goals as goal

pub returns : goal.returns
returns c =
    let a = c.args in
    let text = a.text.now in
    rw (c.kind_number.ensures, c.check_atom_prefix.ensures, take_all (length text - a.pos) (drop a.pos text) (omega (arith, length-drop a.pos text)))
