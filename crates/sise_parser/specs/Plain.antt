-- Plain tokens, which are read without the states of the lexer: where blanks end, and where a run of atom characters does (document 01, "parser.rs: the
-- reader").
-- Assumes nothing.
use Rattle.std.specs.Prelude.{ℕ, ◌+◌, ◌-◌, ◌<◌, ◌≡◌, Bool, true, false, List, [], ◌∷◌, drop, get_or}
use Rattle.sise_util.specs.Chars.{is_atom_chr}
use Rattle.sise_util.specs.Classes.{Class, space, quote, tab, atom_chr, line_end, backslash, other, semicolon, left, right, printable, class_of}
use Rattle.sise_parser.specs.Lexer.{found, atom, between}

-- the classes that `between` of Lexer.antt passes over
abbrev pub is_blank : Class → Bool
is_blank space = true
is_blank tab = true
is_blank line_end = true
is_blank quote = false
is_blank atom_chr = false
is_blank backslash = false
is_blank other = false
is_blank semicolon = false
is_blank left = false
is_blank right = false
is_blank printable = false

-- the first place from p on that holds no blank, or the end, where the bytes from p on are l
unfoldable pub skip_blanks : List ℕ → ℕ → ℕ
skip_blanks [] p = p
skip_blanks (b ∷ l) p = elim (is_blank (class_of b)) [ true ↦ skip_blanks l (p + 1) | false ↦ p ]

-- where the run of atom characters from p on ends
unfoldable pub atom_run : List ℕ → ℕ → ℕ
atom_run [] p = p
atom_run (b ∷ l) p = elim (is_atom_chr b) [ true ↦ atom_run l (p + 1) | false ↦ p ]

-- the run from s to p is an atom, and the token at s, if it is not empty and no string follows it
abbrev pub AtomTo : List ℕ → ℕ → ℕ → Type 0
AtomTo text s p = s < p → (get_or text p 0 ≡ 34 → ⊥) → between (drop s text) s ≡ found (atom (p - s)) s p
