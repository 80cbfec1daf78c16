-- `sise_util::classes::class_of` meets its contract: the table has the class of every byte.
use mathlib.Core.Path.{ap, ◌∙◌}
use Prim.Native.Nat.{ℕ}
use mathlib.Core.List.{List}
use native.Mathlib.Omega.{arith}
use lib.ListN.{get_or}
use Rattle.sise_util.proofs.ClassLaws.{table_rule}
use Rattle.sise_util.proofs.classes.class_of.Goals as goal

pub returns : goal.returns
returns c = ap (λ (l : List ℕ). get_or l c.args.chr 0) c.table.ensures ∙ table_rule c.args.chr (omega arith)
