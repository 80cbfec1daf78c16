-- What putting bytes into a program's output does. The bytes are collected in a block of 4096, which is written whenever it is full.
-- Assumes nothing.
use Rattle.std.specs.Prelude.{◌≡◌, refl, cond, List, [], ◌∷◌, ◌++◌, ℕ, zero, suc, ◌+◌, ◌/◌, ◌%◌, ltb, set, take, Option, None, Some}
use Rattle.std.specs.Borrow.{Bor}
use Rattle.io.specs.Digits.{hex_digit_ascii}
use Rattle.sise_parser.specs.Refusals.{Refusal}
use Rattle.sise_parser.specs.declared.reader.ParsedItem.{ParsedItem}

-- the place behind the bytes that wait, and the block
pub record Output : Type 0 where
  pub place : ℕ
  pub bytes : List ℕ

abbrev pub output : ℕ → List ℕ → Output
output place bytes = record { place = place; bytes = bytes }

-- where the next byte goes: behind those that wait, or to the start of the next block
unfoldable pub place_in : Output → ℕ
place_in o = cond (ltb o.place 4096) o.place 0

-- a byte goes there, and the place is behind it
unfoldable pub put_byte : Output → ℕ → Output
put_byte o byte = output (place_in o + 1) (set o.bytes (place_in o) byte)

-- bytes go one behind the other
unfoldable pub put : Output → List ℕ → Output
put o [] = o
put o (byte ∷ s) = put (put_byte o byte) s

-- a mark, a text and a line end; nothing where there is no text
unfoldable pub text_line : List ℕ → Option (Bor (List ℕ)) → List ℕ
text_line mark None = []
text_line mark (Some text) = mark ++ text.now ++ (10 ∷ [])

-- the k last decimal digits of a number, without zeros before the first: the last one behind those of the tenth
unfoldable pub decimal_of : ℕ → ℕ → List ℕ
decimal_of zero n = []
decimal_of (suc k) n = cond (ltb n 10) [] (decimal_of k (n / 10)) ++ (hex_digit_ascii (n % 10) ∷ [])

-- a number of 64 bits has 20 at most
unfoldable pub decimal : ℕ → List ℕ
decimal n = decimal_of 20 n

-- a number stands behind a space
unfoldable pub number : ℕ → List ℕ
number n = 32 ∷ decimal n

-- so does each of several
unfoldable pub numbers_text : List ℕ → List ℕ
numbers_text [] = []
numbers_text (n ∷ s) = number n ++ numbers_text s

-- `L place`, `A place length` or `E place`
unfoldable pub item_text : ParsedItem → List ℕ
item_text (ParsedItem.ListStart p) = 76 ∷ number p
item_text (ParsedItem.Atom p n) = 65 ∷ (number p ++ number n)
item_text (ParsedItem.ListEnd p) = 69 ∷ number p

-- a word, and behind it so many parts of a refusal: its number, its place, its code point
unfoldable pub refusal_text : List ℕ → ℕ → Refusal → List ℕ
refusal_text word parts r = word ++ numbers_text (take parts (r.number ∷ r.place ∷ r.code ∷ []))

-- 0 has one digit; a zero inside stays
some_decimals : (decimal 0 ≡ 48 ∷ []) × (decimal 65537 ≡ 54 ∷ 53 ∷ 53 ∷ 51 ∷ 55 ∷ []) × (decimal 100 ≡ 49 ∷ 48 ∷ 48 ∷ [])
unfolding decimal decimal_of
some_decimals = (refl, refl, refl)
