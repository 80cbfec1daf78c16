-- The digits of a case in hexadecimal.
-- Assumes nothing.
use Rattle.std.specs.Prelude.{◌≡◌, refl, ◌-◌, ℕ, cond, ltb}

-- the value of a digit: `0` to `9`, and `A` to `F`; 0 of any other byte, the letters `a` to `f` among them
unfoldable pub digit_value : ℕ → ℕ
digit_value c = cond (ltb c 48) 0 (cond (ltb c 58) (c - 48) (cond (ltb c 65) 0 (cond (ltb c 71) (c - 55) 0)))

-- `9`, `A` and `F` are digits; `f`, `G`, `:` and `@` are none
some_digits : (digit_value 57 ≡ 9) × (digit_value 65 ≡ 10) × (digit_value 70 ≡ 15) × (digit_value 102 ≡ 0) × (digit_value 71 ≡ 0) × (digit_value 58 ≡ 0) × (digit_value 64 ≡ 0)
unfolding digit_value
some_digits = (refl, refl, refl, refl, refl, refl, refl)
