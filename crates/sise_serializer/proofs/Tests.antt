-- Tests on numbers and what their answers say.
-- Assumes nothing.
use Prim.Native.Nat.{ℕ, ◌+◌, ◌≤◌}
use native.Mathlib.Nat.{add-zero}
use native.Mathlib.Omega.{arith}
use mathlib.Core.Path.{◌≡◌, ap, ◌∙◌}
use mathlib.Core.Bool.{Bool, true, false, not, cond}
use mir.Val.{bool_byte}
use lib.ListN.{length}
use Rattle.sise_serializer.specs.Parts.{gap_bytes}

-- a bool as a number
pub one_at_most : (b : Bool) → bool_byte b ≤ 1
one_at_most true = omega arith
one_at_most false = omega arith

pub counted : (b : Bool) (n : ℕ) {k : ℕ} → k ≡ bool_byte b → n + k ≡ cond b (n + 1) n
counted true n e = ap (λ (k : ℕ). n + k) e
counted false n e = ap (λ (k : ℕ). n + k) e ∙ add-zero n

-- what stands before an item that stays in its line is a byte at most
pub gap_short : (joins : Bool) → length (gap_bytes joins) ≤ 1
gap_short true = omega arith
gap_short false = omega arith

pub gap_counted : (joins : Bool) {k : ℕ} → k ≡ bool_byte (not joins) → k ≡ length (gap_bytes joins)
gap_counted true e = e
gap_counted false e = e
