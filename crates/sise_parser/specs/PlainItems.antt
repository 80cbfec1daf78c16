-- Plain items: a bracket or an atom without strings, inside a list. They are read without the states of the lexer.
-- Assumes nothing.
use Rattle.std.specs.Prelude.{ℕ, ◌≡◌, ◌<◌, ◌⊎◌, true, false, List, length, drop, get_or}
use Rattle.sise_util.specs.Classes.{class_of}
use Rattle.sise_parser.specs.Plain.{is_blank, skip_blanks, atom_run}
use Rattle.sise_parser.specs.Reader.{reader, is_sound, item, next, next_item}
use Rattle.sise_parser.specs.declared.plain.Seen.{Seen}
use Rattle.sise_parser.specs.declared.plain.Seen.TheVariants.{Plain, Token, Outside}
use Rattle.sise_parser.specs.declared.reader.Phase.TheVariants.{Parsing}
use Rattle.sise_parser.specs.declared.reader.Reader.{Reader}

-- a bracket stands at s that is plain where so many lists are open
abbrev pub IsBracketAt : List ℕ → ℕ → ℕ → Type 0
IsBracketAt text lists s = (get_or text s 0 ≡ 40) ⊎ ((get_or text s 0 ≡ 41) × (1 < lists))

-- a run of atom characters begins at s, and no string follows it
abbrev pub IsRunAt : List ℕ → ℕ → Type 0
IsRunAt text s = (s < atom_run (drop s text) s) × (get_or text (atom_run (drop s text) s) 0 ≡ 34 → ⊥)

-- a plain item begins at s, where so many lists are open: a `(`, a `)` that does not end the outermost list, or such a run
abbrev pub IsPlainAt : List ℕ → ℕ → ℕ → Type 0
IsPlainAt text lists s = (get_or text s 0 ≡ 40) ⊎ (((get_or text s 0 ≡ 41) × (1 < lists)) ⊎ IsRunAt text s)

-- the next item is plain
abbrev pub IsPlain : List ℕ → Reader → Type 0
IsPlain text r = (0 < r.lists) × IsPlainAt text r.lists (skip_blanks (drop r.position text) r.position)

-- the reader goes on from s as from its record's place; no blank stands at s, and e is where the run of atom characters from s on ends
pub record GoesOn (text : List ℕ) (r : Reader) (s e : ℕ) : Type 0 where
  pub sound : is_sound (length text) (reader s Parsing r.lists) ≡ true
  pub same : next_item text (reader s Parsing r.lists) ≡ next_item text r
  pub stop : s < length text → is_blank (class_of (get_or text s 0)) ≡ false
  pub run : e ≡ atom_run (drop s text) s

-- what is seen at the record's place: a plain item, or the place where a token is due that is none; outside a list, or by an unsound record, nothing
abbrev pub Sees : List ℕ → Reader → Seen → Type 0
Sees text r (Plain p) = (is_sound (length text) r ≡ true) × IsPlain text r × (next p.reader (item p.item) ≡ next_item text r)
Sees text r (Token s e) = (IsPlain text r → ⊥) × GoesOn text r s e
Sees text r Outside = is_sound (length text) r ≡ true → IsPlain text r → ⊥
