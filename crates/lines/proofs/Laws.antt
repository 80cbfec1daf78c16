-- Laws of putting bytes: those of two strings one after the other are those of the two together; a place within the block stays within it; and the fewest
-- digits that hold a number are its decimal digits.
use Rattle.std.proofs.Common.{◌≡◌, refl, sym, ap, ◌∙◌, Bool, cond, List, [], ◌∷◌, ◌++◌, ℕ, zero, suc, ◌+◌, ◌*◌, ◌-◌, ◌/◌, ◌%◌, ◌^◌, ◌≤◌, pow-suc, div-lt_iff_lt-mul, le-div_iff_mul-le, zero-lt-suc, arith}
use Rattle.std.proofs.Math.Nat.{one-le-pow}
use Rattle.std.proofs.lemmas.Bool.{cond_both, lt-ltb, le-ltb}
use lib.Dec.{ltb}
use borrow.Author.Tests.{ltb-true}
use Rattle.io.specs.Digits.{hex_digit_ascii, last_digits, IsDigitCount}
use Rattle.lines.specs.Put.{Output, place_in, put_byte, put, decimal_of}

pub put_append : (o : Output) (s t : List ℕ) → put o (s ++ t) ≡ put (put o s) t
unfolding put
put_append o [] t = refl
put_append o (c ∷ s) t = put_append (put_byte o c) s t

-- what is put first, and then what is put in the output that it left
pub put_both : (o : Output) {p q : Output} (s t : List ℕ) → p ≡ put o s → q ≡ put p t → q ≡ put o (s ++ t)
put_both o s t e f = f ∙ ap (λ (x : Output). put x t) e ∙ sym (put_append o s t)

-- behind a byte, the place is within the block, which is one of 4096 at most
pub some_within : (o : Output) (c : ℕ) (s : List ℕ) → (put o (c ∷ s)).place ≤ 4096
unfolding put put_byte place_in
some_within o c [] = cond_both (ltb o.place 4096) o.place 0 (λ (n : ℕ). n + 1 ≤ 4096) (λ e. omega (arith, ltb-true _ _ e)) (λ e. omega arith)
some_within o c (d ∷ s) = some_within (put_byte o c) d s

-- and a place that was within it stays so, whatever is put
pub put_within : (o : Output) (s : List ℕ) → o.place ≤ 4096 → (put o s).place ≤ 4096
unfolding put
put_within o [] h = h
put_within o (c ∷ s) h = some_within o c s

-- a number of k + 2 digits is ten times 10 ^ k at least
at_least : (n k : ℕ) → IsDigitCount 10 1 n (suc (suc k)) → 10 ^ k * 10 ≤ n
at_least n k w =
    let e : suc (suc k) - 1 ≡ suc k = omega arith in
    rw (e, pow-suc) at (w.2 (omega arith))

-- its tenth has one digit fewer
tenth : (n k : ℕ) → IsDigitCount 10 1 n (suc (suc k)) → IsDigitCount 10 1 (n / 10) (suc k)
tenth n k w =
    let e : suc k - 1 ≡ k = omega arith in (
      omega arith,
      (div-lt_iff_lt-mul (zero-lt-suc 9)).1 (rw pow-suc at w.1),
      λ h. rw e ((le-div_iff_mul-le (zero-lt-suc 9)).1 (at_least n k w)),
    )

pub spelled : (k f n : ℕ) → suc k ≤ f → IsDigitCount 10 1 n (suc k) → last_digits 10 (suc k) n ≡ decimal_of f n
unfolding decimal_of
spelled zero zero n h w = elim h [ ]
spelled zero (suc f) n h w = ap (λ (b : Bool). cond b [] (decimal_of f (n / 10)) ++ (hex_digit_ascii (n % 10) ∷ [])) (sym (lt-ltb n 10 w.1))
spelled (suc k) zero n h w = elim h [ ]
spelled (suc k) (suc f) n h w =
    ap (λ (s : List ℕ). s ++ (hex_digit_ascii (n % 10) ∷ [])) (spelled k f (n / 10) (omega arith) (tenth n k w))
    ∙ ap (λ (b : Bool). cond b [] (decimal_of f (n / 10)) ++ (hex_digit_ascii (n % 10) ∷ [])) (sym (le-ltb n 10 (omega (arith, at_least n k w, one-le-pow k 10 (zero-lt-suc 9)))))
