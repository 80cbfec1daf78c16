-- The loop's invariant: the table stands for the lists that are open, and one is. The position, which each item moves, measures what is left.
use Prim.Native.Nat.{ℕ, ◌-◌}
use mathlib.Core.Path.{◌≡◌}
use lib.ListN.{length}
use Rattle.sise_tree.specs.ParseTree.{Frames}
use Rattle.sise_tree.specs.Filling.{Fills}
use Rattle.sise_tree.proofs.parse.fill_nodes.Given as goal

abbrev pub invariant-loop-due : goal.invariant-loop-due
invariant-loop-due l = (f : Frames) × (depth : ℕ) × (depth ≡ 0 → ⊥) × Fills l.text l.fn.table l.fn.reader f l.behind depth l.table l.mark

abbrev pub decreases-loop-due : goal.decreases-loop-due
decreases-loop-due l = length l.text - l.behind.position
