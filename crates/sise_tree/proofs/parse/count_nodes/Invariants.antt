-- Each way through the loop is one law of the counting's state, inside the node; the position, which each item moves, measures what is left.
use Prim.Native.Nat.{ℕ, ◌-◌}
use mathlib.Core.Path.{◌≡◌}
use lib.ListN.{length}
use Rattle.sise_tree.specs.ParseTree.{Frames}
use Rattle.sise_tree.specs.Filling.{Counts}
use Rattle.sise_tree.proofs.parse.count_nodes.Given as goal

abbrev pub invariant-loop-nodes : goal.invariant-loop-nodes
invariant-loop-nodes l = (f : Frames) × (depth : ℕ) × (depth ≡ 0 → ⊥) × Counts l.text l.fn.reader f l.reader depth l.nodes

abbrev pub decreases-loop-nodes : goal.decreases-loop-nodes
decreases-loop-nodes l = length l.text - l.reader.position
