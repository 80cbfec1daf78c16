-- A character by RFC 3629: the syntax of its octets (section 4), its code point (section 3), and valid UTF-8; and how many bytes a broken one has.
-- Assumes nothing.
use Rattle.std.specs.Prelude.{ℕ, ◌+◌, ◌-◌, ◌*◌, ◌/◌, ◌%◌, ◌≤◌, ◌<◌, ◌≡◌, ◌⊎◌, true, false, cond, ltb, length, take, Result, Ok, Err}
use mathlib.Core.List.{List, [], ◌∷◌, ◌++◌, Memᴰ}
use Rattle.sise_util.specs.Chars.{within}
use Rattle.sise_util.specs.declared.utf8.Character.{Character}
use Rattle.sise_util.specs.declared.utf8.IllFormed.{IllFormed}

pub record Range : Type 0 where
  pub lo : ℕ
  pub hi : ℕ

abbrev pub range : ℕ → ℕ → Range
range a b = record { lo = a; hi = b }

-- UTF8-tail = %x80-BF
abbrev pub tail : Range
tail = range 0x80 0xBF

-- an alternative of section 4's syntax: the octets' ranges; and the bits that mark its first octet in the table of section 3
pub record Form : Type 0 where
  pub mark : ℕ
  pub first : Range
  pub rest : List Range

abbrev pub form : ℕ → Range → List Range → Form
form m r rs = record { mark = m; first = r; rest = rs }

-- UTF8-1, UTF8-2, UTF8-3 and UTF8-4, an alternative a row, in the standard's order
unfoldable pub forms : List Form
forms =
    form 0x00 (range 0x00 0x7F) [] ∷
    form 0xC0 (range 0xC2 0xDF) (tail ∷ []) ∷
    form 0xE0 (range 0xE0 0xE0) (range 0xA0 0xBF ∷ tail ∷ []) ∷
    form 0xE0 (range 0xE1 0xEC) (tail ∷ tail ∷ []) ∷
    form 0xE0 (range 0xED 0xED) (range 0x80 0x9F ∷ tail ∷ []) ∷
    form 0xE0 (range 0xEE 0xEF) (tail ∷ tail ∷ []) ∷
    form 0xF0 (range 0xF0 0xF0) (range 0x90 0xBF ∷ tail ∷ tail ∷ []) ∷
    form 0xF0 (range 0xF1 0xF3) (tail ∷ tail ∷ tail ∷ []) ∷
    form 0xF0 (range 0xF4 0xF4) (range 0x80 0x8F ∷ tail ∷ tail ∷ []) ∷
    []

-- one octet in each range, and no more
pub data Fits : List Range → List ℕ → Type 0 where
  done : Fits [] []
  octet : {r : Range} {rs : List Range} {b : ℕ} {l : List ℕ} → r.lo ≤ b → b ≤ r.hi → Fits rs l → Fits (r ∷ rs) (b ∷ l)

-- UTF8-char: a byte string that matches a row
pub record Utf8Char (s : List ℕ) : Type 0 where
  pub row : Form
  pub listed : Memᴰ row forms
  pub fits : Fits (row.first ∷ row.rest) s

-- UTF8-octets = *( UTF8-char ): valid UTF-8
pub data Utf8Octets : List ℕ → Type 0 where
  none : Utf8Octets []
  next : {s l : List ℕ} → Utf8Char s → Utf8Octets l → Utf8Octets (s ++ l)

-- s is a start of a well-formed character
abbrev pub Starts : List ℕ → Type 0
Starts s = (t : List ℕ) × Utf8Char (s ++ t)

-- "the longest start of a well-formed character found there, at least one byte" (02, 2.7) has k bytes: the maximal subpart of the Unicode Standard
pub record Subpart (l : List ℕ) (k : ℕ) : Type 0 where
  pub some : 1 ≤ k
  pub inside : k ≤ length l
  -- a start, or the one byte where there is none
  pub starts : (k ≡ 1) ⊎ Starts (take k l)
  pub longest : (j : ℕ) → k < j → j ≤ length l → Starts (take j l) → ⊥

-- a well-formed character of a code point and a number of bytes; and a broken one of a number of bytes
abbrev pub well : ℕ → ℕ → Result Character IllFormed
well c n = Ok (record { code = c; len = n })

abbrev pub ill : ℕ → Result Character IllFormed
ill n = Err (record { len = n })

-- the octets after the first: each in its range, with six more bits of the code point (section 3); c is what the octets before have of it, and n
-- the number of all octets. Where one is missing or out of its range, those before it are the start of a character: all n but the ones still due
unfoldable pub follow : ℕ → ℕ → List Range → List ℕ → Result Character IllFormed
follow c n [] l = well c n
follow c n (r ∷ rs) [] = ill (n - length (r ∷ rs))
follow c n (r ∷ rs) (b ∷ l) =
    elim (within r.lo r.hi b) [
      | true ↦ follow (c * 64 + (b - 0x80)) n rs l
      | false ↦ ill (n - length (r ∷ rs))
    ]

-- the row in whose first range the first octet is; an octet that begins no row is one byte (02, 2.7: "at least one byte"), and at the end there is none
unfoldable pub by_rows : List Form → List ℕ → Result Character IllFormed
by_rows [] [] = ill 0
by_rows [] (b ∷ l) = ill 1
by_rows (f ∷ fs) [] = ill 0
by_rows (f ∷ fs) (b ∷ l) =
    elim (within f.first.lo f.first.hi b) [
      | true ↦ follow (b - f.mark) (1 + length f.rest) f.rest l
      | false ↦ by_rows fs (b ∷ l)
    ]

-- the character that the bytes begin with: its code point and its number of bytes; or none that is well formed, and the number of bytes that stand
-- for one that is broken
unfoldable pub character : List ℕ → Result Character IllFormed
character l = by_rows forms l

-- section 3: "Char. number range" and "UTF-8 octet sequence"
unfoldable pub octets_of : ℕ → List ℕ
octets_of c =
    cond (ltb c 0x80) (c ∷ []) (
    cond (ltb c 0x800) ((0xC0 + c / 64) ∷ (0x80 + c % 64) ∷ []) (
    cond (ltb c 0x10000) ((0xE0 + c / 4096) ∷ (0x80 + c / 64 % 64) ∷ (0x80 + c % 64) ∷ [])
    ((0xF0 + c / 262144) ∷ (0x80 + c / 4096 % 64) ∷ (0x80 + c / 64 % 64) ∷ (0x80 + c % 64) ∷ [])))

-- the code points that UTF-8 encodes: U+0000 to U+10FFFF but D800 to DFFF (section 3)
pub record Scalar (c : ℕ) : Type 0 where
  pub below : c < 0x110000
  pub plain : 0xD800 ≤ c → c ≤ 0xDFFF → ⊥
