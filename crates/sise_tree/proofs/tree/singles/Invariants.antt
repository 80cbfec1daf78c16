-- Each node of span 1 that is no list leaves one node less to step over, and one place on: what is left has the whole's answer.
use Prim.Native.Nat.{ℕ, ◌+◌, ◌≤◌}
use mathlib.Core.List.{List}
use Rattle.sise_tree.specs.Parts.{SameFrom}
use Rattle.sise_tree.proofs.tree.singles.Given as goal

-- `run` nodes are counted
pub record Counted (words : List ℕ) (left at end run : ℕ) : Type 0 where
  pub same : SameFrom words left at end run
  pub few : run ≤ left
  pub within : at + run ≤ end

abbrev pub invariant-loop-run : goal.invariant-loop-run
invariant-loop-run l = Counted l.table l.left l.at l.end l.run
