-- What the loop keeps: what the test says of the bytes that are left is what it says of the whole atom, and no atom character stands where it goes on. A string
-- and the atom characters behind it are passed at once; if the string is all, the atom is that string.
use mathlib.Core.Path.{◌≡◌}
use mathlib.Core.Bool.{true, false}
use mathlib.Core.List.{List}
use Prim.Native.Nat.{ℕ, ◌-◌, ◌≤◌}
use lib.ListN.{length, drop}
use Rattle.sise_util.specs.Atom.{outside, is_atom, has_quote, is_string}
use Rattle.sise_util.specs.Parts.{StopsAt}
use Rattle.sise_util.proofs.util.kind_from.Given as goal

-- outside strings at `at` of s the test says what it says of s; no atom character stands there; behind its first byte s is no string, and at its end it has a quote
pub record Due (s : List ℕ) (at : ℕ) : Type 0 where
  pub same : outside (drop at s) ≡ is_atom s
  pub stop : StopsAt s at
  pub begun : (at ≡ 0 → ⊥) → is_string s ≡ false
  pub quoted : length s ≤ at → has_quote s ≡ true

abbrev pub invariant-loop-at : goal.invariant-loop-at
invariant-loop-at l = Due l.atom l.at

abbrev pub decreases-loop-at : goal.decreases-loop-at
decreases-loop-at l = length l.atom - l.at
