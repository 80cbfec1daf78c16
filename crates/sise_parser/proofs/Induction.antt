-- Induction over the lexer: what is kept by a byte that is passed, and holds of each way to end, holds of every token. In an atom the lexer and the test
-- of an atom go from state to state together.
-- Assumes nothing.
use mathlib.Core.Path.{◌≡◌, refl, sym, ap, ◌∙◌}
use mathlib.Core.Bool.{Bool, true, false}
use mathlib.Core.List.{List, [], ◌∷◌}
use Prim.Native.Nat.{ℕ, ◌+◌, ◌-◌, ◌≤◌}
use lib.Dec.{lit≤}
use lib.ListN.{drop}
use lib.Seq.{drop-drop}
use Rattle.sise_util.specs.Classes.{Class, space, quote, tab, atom_chr, line_end, backslash, other, semicolon, left, right, printable, class_of}
use Rattle.sise_util.specs.Atom.{outside, inside, escaped}
use Rattle.sise_parser.specs.Lexer.{Lexed, found, eof, opening, closing, atom, unfinished, wrong, between, comment, plain, string, escape}

-- the class of what is neither printable nor a blank: every byte from 0x7F on is in it
abbrev pub is_other : Class → Bool
is_other space = false
is_other quote = false
is_other tab = false
is_other atom_chr = false
is_other line_end = false
is_other backslash = false
is_other other = true
is_other semicolon = false
is_other left = false
is_other right = false
is_other printable = false

-- the bytes of the text from p on are l
abbrev pub From : List ℕ → ℕ → List ℕ → Type 0
From text p l = drop p text ≡ l

pub next_from : (text : List ℕ) (p : ℕ) {b : ℕ} {l : List ℕ} → From text p (b ∷ l) → From text (p + 1) l
next_from text p e = sym (drop-drop 1 p text) ∙ ap (drop 1) e

-- the three states of an atom
pub data InAtom : Type 0 where
  outside_string inside_string after_backslash : InAtom

-- what the test of an atom says in each, of the bytes that are left
abbrev pub passes : InAtom → List ℕ → Bool
passes outside_string l = outside l
passes inside_string l = inside l
passes after_backslash l = escaped l

-- R is a claim about a token looked for at p, where the bytes l are left; A is one about an atom that began at s
pub record Cases (R : List ℕ → ℕ → Lexed → Type 0) (A : InAtom → List ℕ → ℕ → ℕ → Lexed → Type 0) : Type 0 where
  pub passed : (b : ℕ) (l : List ℕ) (p : ℕ) (x : Lexed) → is_other (class_of b) ≡ false → R l (p + 1) x → R (b ∷ l) p x
  pub atom_begun : (t : InAtom) (b : ℕ) (l : List ℕ) (p : ℕ) (x : Lexed) → is_other (class_of b) ≡ false → ((m : List ℕ) → outside (b ∷ m) ≡ passes t m)
      → A t l (p + 1) p x → R (b ∷ l) p x
  pub at_end : (p : ℕ) → R [] p (found eof p p)
  pub opened : (b : ℕ) (l : List ℕ) (p : ℕ) → class_of b ≡ left → R (b ∷ l) p (found opening p (p + 1))
  pub closed : (b : ℕ) (l : List ℕ) (p : ℕ) → class_of b ≡ right → R (b ∷ l) p (found closing p (p + 1))
  pub refused : (n b : ℕ) (l : List ℕ) (p : ℕ) → 1 ≤ n → n ≤ 3 → R (b ∷ l) p (wrong n (b ∷ l) p)
  pub passed_in_atom : (t u : InAtom) (b : ℕ) (l : List ℕ) (p s : ℕ) (x : Lexed) → is_other (class_of b) ≡ false
      → ((m : List ℕ) → passes t (b ∷ m) ≡ passes u m) → A u l (p + 1) s x → A t (b ∷ l) p s x
  pub stopped : (l : List ℕ) (p s : ℕ) → A outside_string l p s (found (atom (p - s)) s p)
  pub cut : (t : InAtom) (p s : ℕ) → A t [] p s (unfinished p)
  pub refused_in_atom : (t : InAtom) (b : ℕ) (l : List ℕ) (p s : ℕ) → A t (b ∷ l) p s (wrong 2 (b ∷ l) p)

module _ (R : List ℕ → ℕ → Lexed → Type 0) (A : InAtom → List ℕ → ℕ → ℕ → Lexed → Type 0) (k : Cases R A) where
  between_step : (b : ℕ) (l : List ℕ) (p : ℕ) → R l (p + 1) (between l (p + 1)) → R l (p + 1) (comment l (p + 1)) → A outside_string l (p + 1) p (plain l (p + 1) p) → A inside_string l (p + 1) p (string l (p + 1) p) → R (b ∷ l) p (between (b ∷ l) p)
  unfolding between outside
  between_step b l p hb hc hp hs = go (class_of b) refl
    where
      go : (c : Class) → class_of b ≡ c → R (b ∷ l) p (between (b ∷ l) p)
      go space e = rw (e, between) (k.passed b l p _ (ap is_other e) hb)
      go quote e = rw (e, between) (k.atom_begun inside_string b l p _ (ap is_other e) (λ m. rw (e, outside)) hs)
      go tab e = rw (e, between) (k.passed b l p _ (ap is_other e) hb)
      go atom_chr e = rw (e, between) (k.atom_begun outside_string b l p _ (ap is_other e) (λ m. rw (e, outside)) hp)
      go line_end e = rw (e, between) (k.passed b l p _ (ap is_other e) hb)
      go backslash e = rw (e, between) (k.refused 1 b l p (lit≤ tt) (lit≤ tt))
      go other e = rw (e, between) (k.refused 1 b l p (lit≤ tt) (lit≤ tt))
      go semicolon e = rw (e, between) (k.passed b l p _ (ap is_other e) hc)
      go left e = rw (e, between) (k.opened b l p e)
      go right e = rw (e, between) (k.closed b l p e)
      go printable e = rw (e, between) (k.refused 1 b l p (lit≤ tt) (lit≤ tt))

  comment_step : (b : ℕ) (l : List ℕ) (p : ℕ) → R l (p + 1) (between l (p + 1)) → R l (p + 1) (comment l (p + 1)) → R (b ∷ l) p (comment (b ∷ l) p)
  unfolding comment
  comment_step b l p hb hc = go (class_of b) refl
    where
      go : (c : Class) → class_of b ≡ c → R (b ∷ l) p (comment (b ∷ l) p)
      go space e = rw (e, comment) (k.passed b l p _ (ap is_other e) hc)
      go quote e = rw (e, comment) (k.passed b l p _ (ap is_other e) hc)
      go tab e = rw (e, comment) (k.passed b l p _ (ap is_other e) hc)
      go atom_chr e = rw (e, comment) (k.passed b l p _ (ap is_other e) hc)
      go line_end e = rw (e, comment) (k.passed b l p _ (ap is_other e) hb)
      go backslash e = rw (e, comment) (k.passed b l p _ (ap is_other e) hc)
      go other e = rw (e, comment) (k.refused 3 b l p (lit≤ tt) (lit≤ tt))
      go semicolon e = rw (e, comment) (k.passed b l p _ (ap is_other e) hc)
      go left e = rw (e, comment) (k.passed b l p _ (ap is_other e) hc)
      go right e = rw (e, comment) (k.passed b l p _ (ap is_other e) hc)
      go printable e = rw (e, comment) (k.passed b l p _ (ap is_other e) hc)

  plain_step : (b : ℕ) (l : List ℕ) (p s : ℕ) → A outside_string l (p + 1) s (plain l (p + 1) s) → A inside_string l (p + 1) s (string l (p + 1) s) → A outside_string (b ∷ l) p s (plain (b ∷ l) p s)
  unfolding plain outside
  plain_step b l p s hp hs = go (class_of b) refl
    where
      go : (c : Class) → class_of b ≡ c → A outside_string (b ∷ l) p s (plain (b ∷ l) p s)
      go space e = rw (e, plain) (k.stopped (b ∷ l) p s)
      go quote e = rw (e, plain) (k.passed_in_atom outside_string inside_string b l p s _ (ap is_other e) (λ m. rw (e, outside)) hs)
      go tab e = rw (e, plain) (k.stopped (b ∷ l) p s)
      go atom_chr e = rw (e, plain) (k.passed_in_atom outside_string outside_string b l p s _ (ap is_other e) (λ m. rw (e, outside)) hp)
      go line_end e = rw (e, plain) (k.stopped (b ∷ l) p s)
      go backslash e = rw (e, plain) (k.stopped (b ∷ l) p s)
      go other e = rw (e, plain) (k.stopped (b ∷ l) p s)
      go semicolon e = rw (e, plain) (k.stopped (b ∷ l) p s)
      go left e = rw (e, plain) (k.stopped (b ∷ l) p s)
      go right e = rw (e, plain) (k.stopped (b ∷ l) p s)
      go printable e = rw (e, plain) (k.stopped (b ∷ l) p s)

  string_step : (b : ℕ) (l : List ℕ) (p s : ℕ) → A outside_string l (p + 1) s (plain l (p + 1) s) → A inside_string l (p + 1) s (string l (p + 1) s) → A after_backslash l (p + 1) s (escape l (p + 1) s) → A inside_string (b ∷ l) p s (string (b ∷ l) p s)
  unfolding string inside
  string_step b l p s hp hs he = go (class_of b) refl
    where
      go : (c : Class) → class_of b ≡ c → A inside_string (b ∷ l) p s (string (b ∷ l) p s)
      go space e = rw (e, string) (k.passed_in_atom inside_string inside_string b l p s _ (ap is_other e) (λ m. rw (e, inside)) hs)
      go quote e = rw (e, string) (k.passed_in_atom inside_string outside_string b l p s _ (ap is_other e) (λ m. rw (e, inside)) hp)
      go tab e = rw (e, string) (k.refused_in_atom inside_string b l p s)
      go atom_chr e = rw (e, string) (k.passed_in_atom inside_string inside_string b l p s _ (ap is_other e) (λ m. rw (e, inside)) hs)
      go line_end e = rw (e, string) (k.refused_in_atom inside_string b l p s)
      go backslash e = rw (e, string) (k.passed_in_atom inside_string after_backslash b l p s _ (ap is_other e) (λ m. rw (e, inside)) he)
      go other e = rw (e, string) (k.refused_in_atom inside_string b l p s)
      go semicolon e = rw (e, string) (k.passed_in_atom inside_string inside_string b l p s _ (ap is_other e) (λ m. rw (e, inside)) hs)
      go left e = rw (e, string) (k.passed_in_atom inside_string inside_string b l p s _ (ap is_other e) (λ m. rw (e, inside)) hs)
      go right e = rw (e, string) (k.passed_in_atom inside_string inside_string b l p s _ (ap is_other e) (λ m. rw (e, inside)) hs)
      go printable e = rw (e, string) (k.passed_in_atom inside_string inside_string b l p s _ (ap is_other e) (λ m. rw (e, inside)) hs)

  escape_step : (b : ℕ) (l : List ℕ) (p s : ℕ) → A inside_string l (p + 1) s (string l (p + 1) s) → A after_backslash (b ∷ l) p s (escape (b ∷ l) p s)
  unfolding escape escaped
  escape_step b l p s hs = go (class_of b) refl
    where
      go : (c : Class) → class_of b ≡ c → A after_backslash (b ∷ l) p s (escape (b ∷ l) p s)
      go space e = rw (e, escape) (k.passed_in_atom after_backslash inside_string b l p s _ (ap is_other e) (λ m. rw (e, escaped)) hs)
      go quote e = rw (e, escape) (k.passed_in_atom after_backslash inside_string b l p s _ (ap is_other e) (λ m. rw (e, escaped)) hs)
      go tab e = rw (e, escape) (k.refused_in_atom after_backslash b l p s)
      go atom_chr e = rw (e, escape) (k.passed_in_atom after_backslash inside_string b l p s _ (ap is_other e) (λ m. rw (e, escaped)) hs)
      go line_end e = rw (e, escape) (k.refused_in_atom after_backslash b l p s)
      go backslash e = rw (e, escape) (k.passed_in_atom after_backslash inside_string b l p s _ (ap is_other e) (λ m. rw (e, escaped)) hs)
      go other e = rw (e, escape) (k.refused_in_atom after_backslash b l p s)
      go semicolon e = rw (e, escape) (k.passed_in_atom after_backslash inside_string b l p s _ (ap is_other e) (λ m. rw (e, escaped)) hs)
      go left e = rw (e, escape) (k.passed_in_atom after_backslash inside_string b l p s _ (ap is_other e) (λ m. rw (e, escaped)) hs)
      go right e = rw (e, escape) (k.passed_in_atom after_backslash inside_string b l p s _ (ap is_other e) (λ m. rw (e, escaped)) hs)
      go printable e = rw (e, escape) (k.passed_in_atom after_backslash inside_string b l p s _ (ap is_other e) (λ m. rw (e, escaped)) hs)

  mutual
    unfolding between comment plain string escape

    pub in_between : (l : List ℕ) (p : ℕ) → R l p (between l p)
    in_between [] p = k.at_end p
    in_between (b ∷ l) p = between_step b l p (in_between l (p + 1)) (in_comment l (p + 1)) (in_plain l (p + 1) p) (in_string l (p + 1) p)

    pub in_comment : (l : List ℕ) (p : ℕ) → R l p (comment l p)
    in_comment [] p = k.at_end p
    in_comment (b ∷ l) p = comment_step b l p (in_between l (p + 1)) (in_comment l (p + 1))

    pub in_plain : (l : List ℕ) (p s : ℕ) → A outside_string l p s (plain l p s)
    in_plain [] p s = k.stopped [] p s
    in_plain (b ∷ l) p s = plain_step b l p s (in_plain l (p + 1) s) (in_string l (p + 1) s)

    pub in_string : (l : List ℕ) (p s : ℕ) → A inside_string l p s (string l p s)
    in_string [] p s = k.cut inside_string p s
    in_string (b ∷ l) p s = string_step b l p s (in_plain l (p + 1) s) (in_string l (p + 1) s) (in_escape l (p + 1) s)

    pub in_escape : (l : List ℕ) (p s : ℕ) → A after_backslash l p s (escape l p s)
    in_escape [] p s = k.cut after_backslash p s
    in_escape (b ∷ l) p s = escape_step b l p s (in_string l (p + 1) s)
