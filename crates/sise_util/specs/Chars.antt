-- The characters of atoms and strings (util.rs; document 01, "util.rs: characters and atoms").
-- Assumes nothing.
use Rattle.std.specs.Prelude.{ℕ, Bool, false, ◌&&◌, ◌||◌, not, List, [], ◌∷◌, leb, eqb}

-- lo to hi, both among them
unfoldable pub within : ℕ → ℕ → ℕ → Bool
within lo hi b = leb lo b && leb b hi

unfoldable pub one_of : List ℕ → ℕ → Bool
one_of [] b = false
one_of (c ∷ cs) b = eqb b c || one_of cs b

-- ! # $ % & * + - . / : < = > ? @ _ ~
unfoldable pub marks : List ℕ
marks = 33 ∷ 35 ∷ 36 ∷ 37 ∷ 38 ∷ 42 ∷ 43 ∷ 45 ∷ 46 ∷ 47 ∷ 58 ∷ 60 ∷ 61 ∷ 62 ∷ 63 ∷ 64 ∷ 95 ∷ 126 ∷ []

-- "Atom characters": the marks, digits, A to Z, a to z
unfoldable pub is_atom_chr : ℕ → Bool
unfolding marks one_of within
is_atom_chr b = one_of marks b || within 48 57 b || within 65 90 b || within 97 122 b

-- " and \
unfoldable pub is_quote_or_backslash : ℕ → Bool
unfolding one_of
is_quote_or_backslash b = one_of (34 ∷ 92 ∷ []) b

-- "String characters": 0x20 to 0x7E but " and \
unfoldable pub is_string_chr : ℕ → Bool
unfolding within is_quote_or_backslash
is_string_chr b = within 0x20 0x7E b && not (is_quote_or_backslash b)

-- what may follow \ in a string: a string character, " or \
unfoldable pub is_escaped_chr : ℕ → Bool
unfolding is_string_chr
is_escaped_chr b = is_string_chr b || is_quote_or_backslash b
