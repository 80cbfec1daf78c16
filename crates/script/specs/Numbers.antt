-- How numbers stand in a script.
use Rattle.std.specs.Prelude.{◌≡◌, ◌<◌, cond, ℕ, List, [], ◌∷◌, ◌++◌, eqb}
use Rattle.std.specs.Str.Parse.{IsNumeral, digits_value}

-- 999999999 stands for the largest number of 64 bits
unfoldable pub number_meant : ℕ → ℕ
number_meant n = cond (eqb n 999999999) 18446744073709551615 n

-- the number n stands in front: its decimal digits, and the byte `end` behind them
pub record Number (end : ℕ) (script : List ℕ) (n : ℕ) (rest : List ℕ) : Type 0 where
  pub digits : List ℕ
  pub joined : script ≡ digits ++ end ∷ rest
  pub numeral : IsNumeral 10 digits
  pub value : n ≡ digits_value 10 digits
  pub below : n < 1000000000

-- the same with a space before it
abbrev pub Field : ℕ → List ℕ → ℕ → List ℕ → Type 0
Field end script n rest = (s : List ℕ) × (script ≡ 32 ∷ s) × Number end s n rest

-- the numbers of a line, one at least: a space before each, and a line end behind the last
unfoldable pub Line : List ℕ → List ℕ → List ℕ → Type 0
Line script [] rest = ⊥
Line script (n ∷ []) rest = Field 10 script n rest
Line script (n ∷ m ∷ ns) rest = (t : List ℕ) × Field 32 script n t × Line (32 ∷ t) (m ∷ ns) rest

-- a line that a letter begins
abbrev pub LetterLine : ℕ → List ℕ → List ℕ → List ℕ → Type 0
LetterLine letter script ns rest = (s : List ℕ) × (script ≡ letter ∷ s) × Line s ns rest

-- numbers with a space behind each, and what they stand for
unfoldable pub Each : List ℕ → List ℕ → List ℕ → Type 0
Each script [] rest = script ≡ rest
Each script (m ∷ ms) rest = (n : ℕ) × (t : List ℕ) × Number 32 script n t × (m ≡ number_meant n) × Each t ms rest
