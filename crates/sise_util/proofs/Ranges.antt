-- What a test that antt computes shows of every number of a range: how a rule over all bytes, or over an arm of a `match`, is proved once.
-- Assumes nothing.
use mathlib.Core.Path.{◌≡◌, refl, subst}
use mathlib.Core.Bool.{Bool, true, false, ◌&&◌, beq, false≢true}
use Prim.Native.Nat.{ℕ, zero, suc, ◌+◌, ◌-◌, ◌≤◌, ◌<◌}
use native.Mathlib.Omega.{arith}
use lib.Dec.{T, eqb, ltb}
use borrow.Author.Tests.{eqb-true, eqb-false, ltb-true, ltb-false}

-- a test's two cases, with what each says of it
pub split {ℓ} : {A : Type ℓ} (x : Bool) → (x ≡ true → A) → (x ≡ false → A) → A
split true f g = f refl
split false f g = g refl

pub and_left : (a b : Bool) → T (a && b) → T a
and_left true b t = tt
and_left false b t = t

pub and_right : (a b : Bool) → T (a && b) → T b
and_right true b t = t
and_right false b t = absurd t

-- two tests in one, as an equation
pub and_first : (a b : Bool) → a && b ≡ true → a ≡ true
and_first true b h = refl
and_first false b h = h

pub and_second : (a b : Bool) → a && b ≡ true → b ≡ true
and_second true b h = h
and_second false b h = absurd (false≢true h)

pub both : (a b : Bool) → a ≡ true → b ≡ true → a && b ≡ true
both true b h k = k
both false b h k = h

-- f passes at the n numbers from lo on
abbrev pub all_from : (ℕ → Bool) → ℕ → ℕ → Bool
all_from f lo zero = true
all_from f lo (suc n) = f lo && all_from f (suc lo) n

pub ranged : (f : ℕ → Bool) (lo n : ℕ) → T (all_from f lo n) → (b : ℕ) → lo ≤ b → b < lo + n → T (f b)
ranged f lo zero t b h k = absurd (omega arith)
ranged f lo (suc n) t b h k =
    split (eqb lo b)
    (λ e. subst (λ (m : ℕ). T (f m)) (eqb-true lo b e) (and_left (f lo) (all_from f (suc lo) n) t))
    (λ e. ranged f (suc lo) n (and_right (f lo) (all_from f (suc lo) n) t) b (above (eqb-false lo b e)) (omega arith))
  where
    above : (lo ≡ b → ⊥) → suc lo ≤ b
    above d = omega arith

pub same_bool : (a v : Bool) → T (beq a v) → v ≡ a
same_bool true true t = refl
same_bool true false t = absurd t
same_bool false true t = absurd t
same_bool false false t = refl

-- f has the value v at the n numbers from lo on
abbrev pub valued_from : (ℕ → Bool) → Bool → ℕ → ℕ → Bool
valued_from f v = all_from (λ b. beq (f b) v)

pub valued : (f : ℕ → Bool) (v : Bool) (lo n : ℕ) → T (valued_from f v lo n) → {b : ℕ} → lo ≤ b → b < lo + n → v ≡ f b
valued f v lo n t {b} h u = same_bool (f b) v (ranged (λ b. beq (f b) v) lo n t b h u)

-- the same with one exception k
pub valued_but : (f : ℕ → Bool) (v : Bool) (k lo n : ℕ) → T (valued_from f v lo (k - lo)) → T (valued_from f v (suc k) (lo + n - suc k)) → {b : ℕ} → (b ≡ k → ⊥) → lo ≤ b → b < lo + n → v ≡ f b
valued_but f v k lo n t t' {b} d h u =
    split (ltb b k)
    (λ e. valued f v lo (k - lo) t h (omega (arith, ltb-true)))
    (λ e. valued f v (suc k) (lo + n - suc k) t' (omega (arith, ltb-false, d)) (omega (arith, ltb-false, d)))
