-- Before each turn, what is left to step over has the whole's answer.
use Prim.Native.Nat.{◌≤◌, ◌/◌}
use mathlib.Core.Path.{◌≡◌}
use lib.ListN.{length}
use Rattle.sise_tree.specs.Tree.{fills_in}
use Rattle.sise_tree.proofs.tree.fills.Given as goal

abbrev pub invariant-loop-left : goal.invariant-loop-left
invariant-loop-left l = (l.end ≤ length l.table / 4) × (fills_in l.table 0 l.left l.at l.end ≡ fills_in l.table 0 l.children 1 l.end)

abbrev pub decreases-loop-left : goal.decreases-loop-left
decreases-loop-left l = l.left
