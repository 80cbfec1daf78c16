-- An atom (document 01: "An atom is one or more of: an atom character; a string"): the grammar as a family of byte strings, and the test.
-- Assumes nothing.
use Rattle.std.specs.Prelude.{ℕ, ◌≡◌, Option, Some, None, Bool, true, false, ◌&&◌, ◌||◌, cond, List, [], ◌∷◌, ◌++◌, leb, eqb, length, take}
use Rattle.sise_util.specs.Chars.{is_atom_chr, is_string_chr, is_escaped_chr}
use Rattle.sise_util.specs.Classes.{space, quote, tab, atom_chr, line_end, backslash, other, semicolon, left, right, printable, class_of}
use Rattle.sise_util.specs.declared.util.AtomKind.{AtomKind}
use Rattle.sise_util.specs.declared.util.AtomKind.TheVariants.{Plain, String, Mixed}

-- what stands between the two " of a string: string characters, or \ followed by a string character, " or \
pub data Inside : List ℕ → Type 0 where
  empty : Inside []
  chr : {b : ℕ} {l : List ℕ} → is_string_chr b ≡ true → Inside l → Inside (b ∷ l)
  escape : {b : ℕ} {l : List ℕ} → is_escaped_chr b ≡ true → Inside l → Inside (92 ∷ b ∷ l)

-- an atom character, or a string
pub data Part : List ℕ → Type 0 where
  single : {b : ℕ} → is_atom_chr b ≡ true → Part (b ∷ [])
  string : {l : List ℕ} → Inside l → Part (34 ∷ l ++ 34 ∷ [])

-- one or more of these
pub data Atom : List ℕ → Type 0 where
  one : {a : List ℕ} → Part a → Atom a
  more : {a l : List ℕ} → Part a → Atom l → Atom (a ++ l)

-- the test, a byte at a time: outside a string, inside one, after \ in one
unfoldable mutual
  pub outside : List ℕ → Bool
  outside [] = true
  outside (b ∷ l) =
      elim (class_of b) [
        | atom_chr ↦ outside l
        | quote ↦ inside l
        | space ↦ false
        | tab ↦ false
        | line_end ↦ false
        | backslash ↦ false
        | other ↦ false
        | semicolon ↦ false
        | left ↦ false
        | right ↦ false
        | printable ↦ false
      ]

  pub inside : List ℕ → Bool
  inside [] = false
  inside (b ∷ l) =
      elim (class_of b) [
        | quote ↦ outside l
        | backslash ↦ escaped l
        | space ↦ inside l
        | atom_chr ↦ inside l
        | semicolon ↦ inside l
        | left ↦ inside l
        | right ↦ inside l
        | printable ↦ inside l
        | tab ↦ false
        | line_end ↦ false
        | other ↦ false
      ]

  pub escaped : List ℕ → Bool
  escaped [] = false
  escaped (b ∷ l) =
      elim (class_of b) [
        | quote ↦ inside l
        | backslash ↦ inside l
        | space ↦ inside l
        | atom_chr ↦ inside l
        | semicolon ↦ inside l
        | left ↦ inside l
        | right ↦ inside l
        | printable ↦ inside l
        | tab ↦ false
        | line_end ↦ false
        | other ↦ false
      ]

-- "the zero-length atom isn't" one
unfoldable pub is_atom : List ℕ → Bool
is_atom [] = false
is_atom (b ∷ l) = outside (b ∷ l)

-- atom characters alone
abbrev pub all_atom_chrs : List ℕ → Bool
all_atom_chrs [] = true
all_atom_chrs (b ∷ l) = is_atom_chr b && all_atom_chrs l

-- ---- which atom (document 02, 2.3: "The check of an atom answers plain (no `"`), one whole string, mixed (any other atom), or no")

-- a `"` among the bytes
unfoldable pub has_quote : List ℕ → Bool
has_quote [] = false
has_quote (b ∷ l) = eqb b 34 || has_quote l

-- behind a `"`: the next `"` that no `\` stands before is the last byte
unfoldable mutual
  pub ends_string : List ℕ → Bool
  ends_string [] = false
  ends_string (b ∷ l) = cond (eqb b 34) (eqb (length l) 0) (cond (eqb b 92) (ends_escaped l) (ends_string l))

  pub ends_escaped : List ℕ → Bool
  ends_escaped [] = false
  ends_escaped (b ∷ l) = ends_string l

unfoldable pub is_string : List ℕ → Bool
is_string [] = false
is_string (b ∷ l) = eqb b 34 && ends_string l

unfoldable pub kind_of : List ℕ → Option AtomKind
kind_of a = cond (is_atom a) (cond (has_quote a) (cond (is_string a) (Some String) (Some Mixed)) (Some Plain)) None

-- "Tables hold 1, 2 or 3 (plain, string, mixed) as an atom's first word"
abbrev pub kind_number : Option AtomKind → ℕ
kind_number (Some Plain) = 1
kind_number (Some String) = 2
kind_number (Some Mixed) = 3
kind_number None = 0

-- ---- the check of tree calls: the first n bytes of the rest of a text; "a length past that part is 17"

unfoldable pub kind_prefix : List ℕ → ℕ → Option AtomKind
kind_prefix rest n = cond (leb n (length rest)) (kind_of (take n rest)) None

unfoldable pub is_atom_prefix : List ℕ → ℕ → Bool
is_atom_prefix rest n = leb n (length rest) && is_atom (take n rest)
