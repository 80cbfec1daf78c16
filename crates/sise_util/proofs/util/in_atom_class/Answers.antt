-- The class of atom characters has their number in the table.
use mathlib.Core.Path.{sym, ap, ◌∙◌}
use Prim.Native.Nat.{ℕ}
use lib.Dec.{eqb}
use Rattle.sise_util.proofs.ClassLaws.{atom_number}
use Rattle.sise_util.proofs.util.in_atom_class.Goals as goal

pub returns : goal.returns
returns c = ap (λ (n : ℕ). eqb n 3) c.class_of.ensures ∙ sym (atom_number c.args.byte)
