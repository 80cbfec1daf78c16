-- What the loop keeps: what the test says inside the string at `at` is what it says from where the string's inside begins. Each byte is one of its steps.
use mathlib.Core.Path.{◌≡◌}
use mathlib.Core.Bool.{Bool}
use mathlib.Core.List.{List}
use Prim.Native.Nat.{ℕ, ◌-◌, ◌≤◌}
use lib.ListN.{length, drop}
use Rattle.sise_util.specs.Atom.{inside, ends_string}
use Rattle.sise_util.proofs.util.string_end.Given as goal

-- inside the string at `at` of s the test says x, and whether the string is the last of it is y
pub record Due (x y : Bool) (s : List ℕ) (at : ℕ) : Type 0 where
  pub same : inside (drop at s) ≡ x
  pub ends : ends_string (drop at s) ≡ y

abbrev pub invariant-loop-at : goal.invariant-loop-at
invariant-loop-at l = Due (inside (drop l.from l.atom)) (ends_string (drop l.from l.atom)) l.atom l.at × (l.from ≤ l.at)

abbrev pub decreases-loop-at : goal.decreases-loop-at
decreases-loop-at l = length l.atom - l.at
