-- The digits are those of `io::decimal`, put as bytes.
use Rattle.std.proofs.Common.{rules, ◌≡◌, ◌∙◌, ap, List, ℕ, zero, suc, ◌<◌, ◌≤◌, arith, not-suc-le-zero, zero-lt-suc}
use Rattle.std.proofs.Math.Nat.{pow-le-pow_right, le_trans}
use Rattle.io.specs.Digits.{last_digits, IsDigitCount}
use Rattle.lines.specs.Put.{Output, put, decimal}
use Rattle.lines.proofs.Laws.{spelled}
use Rattle.lines.proofs.Printer.put_decimal.Goals as goal

in_decimal : (k n : ℕ) → k ≤ 20 → IsDigitCount 10 1 n k → last_digits 10 k n ≡ decimal n
unfolding decimal
in_decimal zero n h w = absurd (not-suc-le-zero w.0)
in_decimal (suc k) n h w = spelled k 20 n h w

-- no number of 64 bits has more than 20 digits
few : (n k : ℕ) → n < 18446744073709551616 → IsDigitCount 10 1 n k → k ≤ 20
few n k h w =
    let least : 20 < k → 100000000000000000000 ≤ n = λ l. le_trans (pow-le-pow_right (zero-lt-suc 9) {i = 20} (omega arith)) (w.2 (omega arith)) in
    grind (arith, least)

put_as_lem : {p : Output} (o : Output) (n k : ℕ) (s : List ℕ) → k ≤ 20 → IsDigitCount 10 1 n k → s ≡ last_digits 10 k n → p ≡ put o s → p ≡ put o (decimal n)
put_as_lem o n k s h w e p = p ∙ ap (put o) (e ∙ in_decimal k n h w)

pub returns : goal.returns
returns c =
    put_as_lem _ _ _ _
    (few _ _ (search rules) c.decimal-k.ensures.len)
    c.decimal-k.ensures.len
    c.decimal-k.ensures.digits
    c.put_bytes.ensures
