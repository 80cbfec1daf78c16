-- Blanks are skipped, and a token after them is found whole, if what follows an atom ends it: the test of an atom and the lexer go by the same classes.
-- Assumes nothing.
use Prim.Native.Nat.{ℕ, ◌+◌, ◌-◌}
use native.Mathlib.Omega.{arith}
use mathlib.Core.Path.{◌≡◌, refl, ap, ◌∙◌}
use mathlib.Core.Bool.{Bool, true, false, ◌||◌, false≢true}
use mathlib.Core.List.{List, [], ◌∷◌, ◌++◌, append_assoc}
use lib.Dec.{eqb}
use lib.ListN.{length, length-append}
use borrow.Author.Tests.{eqb-true}
use Rattle.sise_util.specs.Chars.{one_of}
use Rattle.sise_util.specs.Classes.{Class, space, quote, tab, atom_chr, line_end, backslash, other, semicolon, left, right, printable, class_of}
use Rattle.sise_util.specs.Atom.{outside, inside, escaped, is_atom}
use Rattle.sise_parser.specs.Lexer.{Lexed, Token, found, opening, closing, atom, between, plain, string, escape}
use Rattle.sise_util.proofs.Ranges.{and_first, and_second}
use Rattle.sise_serializer.specs.Calls.{Item, atom as atomItem, list_start, list_end}
use Rattle.sise_layout.specs.Texts.{is_blank, all_blank}

-- the classes that are skipped between tokens, and those that end an atom
abbrev is_gap : Class → Bool
is_gap space = true
is_gap tab = true
is_gap line_end = true
is_gap quote = false
is_gap atom_chr = false
is_gap backslash = false
is_gap other = false
is_gap semicolon = false
is_gap left = false
is_gap right = false
is_gap printable = false

abbrev ends_atom : Class → Bool
ends_atom atom_chr = false
ends_atom quote = false
ends_atom space = true
ends_atom tab = true
ends_atom line_end = true
ends_atom backslash = true
ends_atom other = true
ends_atom semicolon = true
ends_atom left = true
ends_atom right = true
ends_atom printable = true

-- an atom ends before these bytes
abbrev pub stops : List ℕ → Bool
stops [] = true
stops (b ∷ l) = ends_atom (class_of b)

either : {A : Type 0} (a b : Bool) → (a ≡ true → A) → (b ≡ true → A) → a || b ≡ true → A
either true b f g h = f refl
either false b f g h = g h

blank_class : (b : ℕ) → is_blank b ≡ true → is_gap (class_of b) ≡ true
unfolding one_of class_of
blank_class b h =
    either (eqb b 32) _ (λ e. rw (eqb-true b 32 e))
    (either (eqb b 9) _ (λ e. rw (eqb-true b 9 e))
    (either (eqb b 13) _ (λ e. rw (eqb-true b 13 e))
    (either (eqb b 10) _ (λ e. rw (eqb-true b 10 e)) (λ e. absurd (false≢true e))))) h

gap_ends : (c : Class) → is_gap c ≡ true → ends_atom c ≡ true
gap_ends space h = refl
gap_ends tab h = refl
gap_ends line_end h = refl
gap_ends quote h = h
gap_ends atom_chr h = h
gap_ends backslash h = refl
gap_ends other h = refl
gap_ends semicolon h = refl
gap_ends left h = refl
gap_ends right h = refl
gap_ends printable h = refl

pub blank_stops : (b : ℕ) (l : List ℕ) → is_blank b ≡ true → stops (b ∷ l) ≡ true
blank_stops b l h = gap_ends (class_of b) (blank_class b h)

gap_skipped : (b : ℕ) (l : List ℕ) (p : ℕ) → is_gap (class_of b) ≡ true → between (b ∷ l) p ≡ between l (p + 1)
unfolding between
gap_skipped b l p h = go (class_of b) refl
  where
    no : {A : Type 0} (c : Class) → class_of b ≡ c → is_gap c ≡ false → A
    no c e n = absurd (false≢true (rw (e, n) at h))

    go : (c : Class) → class_of b ≡ c → between (b ∷ l) p ≡ between l (p + 1)
    go space e = rw (e, between)
    go tab e = rw (e, between)
    go line_end e = rw (e, between)
    go quote e = no quote e refl
    go atom_chr e = no atom_chr e refl
    go backslash e = no backslash e refl
    go other e = no other e refl
    go semicolon e = no semicolon e refl
    go left e = no left e refl
    go right e = no right e refl
    go printable e = no printable e refl

pub skip_blanks_lem : (g r : List ℕ) (p : ℕ) → all_blank g ≡ true → between (g ++ r) p ≡ between r (p + length g)
skip_blanks_lem [] r p h = ap (between r) (omega arith)
skip_blanks_lem (b ∷ g) r p h =
    gap_skipped b (g ++ r) p (blank_class b (and_first (is_blank b) (all_blank g) h))
    ∙ skip_blanks_lem g r (p + 1) (and_second (is_blank b) (all_blank g) h)
    ∙ ap (between r) (omega arith)

-- the atom that began at s and ends before q
abbrev through : ℕ → ℕ → Lexed
through s q = found (atom (q - s)) s q

plain_stops : (r : List ℕ) (p s : ℕ) → stops r ≡ true → plain r p s ≡ through s p
unfolding plain
plain_stops [] p s k = refl
plain_stops (b ∷ r) p s k = go (class_of b) refl
  where
    go : (c : Class) → class_of b ≡ c → plain (b ∷ r) p s ≡ through s p
    go atom_chr e = absurd (false≢true (rw e at k))
    go quote e = absurd (false≢true (rw e at k))
    go space e = rw (e, plain)
    go tab e = rw (e, plain)
    go line_end e = rw (e, plain)
    go backslash e = rw (e, plain)
    go other e = rw (e, plain)
    go semicolon e = rw (e, plain)
    go left e = rw (e, plain)
    go right e = rw (e, plain)
    go printable e = rw (e, plain)

-- a byte of an atom: what the lexer says behind it is what it says from it on
module _ (b : ℕ) (a r : List ℕ) (p s : ℕ) (x : Lexed) where
  plain_step : outside (b ∷ a) ≡ true → (outside a ≡ true → plain (a ++ r) (p + 1) s ≡ x) → (inside a ≡ true → string (a ++ r) (p + 1) s ≡ x) → plain (b ∷ (a ++ r)) p s ≡ x
  unfolding outside plain
  plain_step h hp hs = go (class_of b) refl
    where
      go : (c : Class) → class_of b ≡ c → plain (b ∷ (a ++ r)) p s ≡ x
      go atom_chr e = rw (e, plain) (hp (rw (e, outside) at h))
      go quote e = rw (e, plain) (hs (rw (e, outside) at h))
      go space e = absurd (false≢true (rw (e, outside) at h))
      go tab e = absurd (false≢true (rw (e, outside) at h))
      go line_end e = absurd (false≢true (rw (e, outside) at h))
      go backslash e = absurd (false≢true (rw (e, outside) at h))
      go other e = absurd (false≢true (rw (e, outside) at h))
      go semicolon e = absurd (false≢true (rw (e, outside) at h))
      go left e = absurd (false≢true (rw (e, outside) at h))
      go right e = absurd (false≢true (rw (e, outside) at h))
      go printable e = absurd (false≢true (rw (e, outside) at h))

  string_step : inside (b ∷ a) ≡ true → (outside a ≡ true → plain (a ++ r) (p + 1) s ≡ x) → (inside a ≡ true → string (a ++ r) (p + 1) s ≡ x) → (escaped a ≡ true → escape (a ++ r) (p + 1) s ≡ x) → string (b ∷ (a ++ r)) p s ≡ x
  unfolding inside string
  string_step h hp hs he = go (class_of b) refl
    where
      go : (c : Class) → class_of b ≡ c → string (b ∷ (a ++ r)) p s ≡ x
      go quote e = rw (e, string) (hp (rw (e, inside) at h))
      go backslash e = rw (e, string) (he (rw (e, inside) at h))
      go atom_chr e = rw (e, string) (hs (rw (e, inside) at h))
      go space e = rw (e, string) (hs (rw (e, inside) at h))
      go semicolon e = rw (e, string) (hs (rw (e, inside) at h))
      go left e = rw (e, string) (hs (rw (e, inside) at h))
      go right e = rw (e, string) (hs (rw (e, inside) at h))
      go printable e = rw (e, string) (hs (rw (e, inside) at h))
      go tab e = absurd (false≢true (rw (e, inside) at h))
      go line_end e = absurd (false≢true (rw (e, inside) at h))
      go other e = absurd (false≢true (rw (e, inside) at h))

  escape_step : escaped (b ∷ a) ≡ true → (inside a ≡ true → string (a ++ r) (p + 1) s ≡ x) → escape (b ∷ (a ++ r)) p s ≡ x
  unfolding escaped escape
  escape_step h hs = go (class_of b) refl
    where
      go : (c : Class) → class_of b ≡ c → escape (b ∷ (a ++ r)) p s ≡ x
      go quote e = rw (e, escape) (hs (rw (e, escaped) at h))
      go backslash e = rw (e, escape) (hs (rw (e, escaped) at h))
      go atom_chr e = rw (e, escape) (hs (rw (e, escaped) at h))
      go space e = rw (e, escape) (hs (rw (e, escaped) at h))
      go semicolon e = rw (e, escape) (hs (rw (e, escaped) at h))
      go left e = rw (e, escape) (hs (rw (e, escaped) at h))
      go right e = rw (e, escape) (hs (rw (e, escaped) at h))
      go printable e = rw (e, escape) (hs (rw (e, escaped) at h))
      go tab e = absurd (false≢true (rw (e, escaped) at h))
      go line_end e = absurd (false≢true (rw (e, escaped) at h))
      go other e = absurd (false≢true (rw (e, escaped) at h))

mutual
  unfolding inside escaped

  plain_on : (a r : List ℕ) (p s : ℕ) → outside a ≡ true → stops r ≡ true → plain (a ++ r) p s ≡ through s (p + length a)
  plain_on [] r p s h k = plain_stops r p s k ∙ ap (through s) (omega arith)
  plain_on (b ∷ a) r p s h k =
      plain_step b a r p s (through s (p + length (b ∷ a))) h
      (λ o. plain_on a r (p + 1) s o k ∙ ap (through s) (omega arith))
      (λ i. string_on a r (p + 1) s i k ∙ ap (through s) (omega arith))

  string_on : (a r : List ℕ) (p s : ℕ) → inside a ≡ true → stops r ≡ true → string (a ++ r) p s ≡ through s (p + length a)
  string_on [] r p s h k = absurd (false≢true h)
  string_on (b ∷ a) r p s h k =
      string_step b a r p s (through s (p + length (b ∷ a))) h
      (λ o. plain_on a r (p + 1) s o k ∙ ap (through s) (omega arith))
      (λ i. string_on a r (p + 1) s i k ∙ ap (through s) (omega arith))
      (λ i. escape_on a r (p + 1) s i k ∙ ap (through s) (omega arith))

  escape_on : (a r : List ℕ) (p s : ℕ) → escaped a ≡ true → stops r ≡ true → escape (a ++ r) p s ≡ through s (p + length a)
  escape_on [] r p s h k = absurd (false≢true h)
  escape_on (b ∷ a) r p s h k =
      escape_step b a r p s (through s (p + length (b ∷ a))) h (λ i. string_on a r (p + 1) s i k ∙ ap (through s) (omega arith))

-- an atom's first byte begins it
atom_begins : (b : ℕ) (a r : List ℕ) (p : ℕ) → outside (b ∷ a) ≡ true → between (b ∷ (a ++ r)) p ≡ plain (b ∷ (a ++ r)) p p
unfolding outside between plain
atom_begins b a r p h = go (class_of b) refl
  where
    go : (c : Class) → class_of b ≡ c → between (b ∷ (a ++ r)) p ≡ plain (b ∷ (a ++ r)) p p
    go atom_chr e = rw (e, between, plain)
    go quote e = rw (e, between, plain)
    go space e = absurd (false≢true (rw (e, outside) at h))
    go tab e = absurd (false≢true (rw (e, outside) at h))
    go line_end e = absurd (false≢true (rw (e, outside) at h))
    go backslash e = absurd (false≢true (rw (e, outside) at h))
    go other e = absurd (false≢true (rw (e, outside) at h))
    go semicolon e = absurd (false≢true (rw (e, outside) at h))
    go left e = absurd (false≢true (rw (e, outside) at h))
    go right e = absurd (false≢true (rw (e, outside) at h))
    go printable e = absurd (false≢true (rw (e, outside) at h))

atom_on : (a r : List ℕ) (p : ℕ) → is_atom a ≡ true → stops r ≡ true → between (a ++ r) p ≡ found (atom (length a)) p (p + length a)
unfolding is_atom
atom_on [] r p h k = absurd (false≢true h)
atom_on (b ∷ a) r p h k =
    atom_begins b a r p h ∙ plain_on (b ∷ a) r p p h k ∙ ap (λ (n : ℕ). found (atom n) p (p + length (b ∷ a))) (omega arith)

-- the bytes of an item, and what the lexer takes them for
abbrev pub token : Item → List ℕ
token (atomItem a) = a
token list_start = 40 ∷ []
token list_end = 41 ∷ []

abbrev pub lexeme : Item → Token
lexeme (atomItem a) = atom (length a)
lexeme list_start = opening
lexeme list_end = closing

-- an item's atom is one
abbrev pub is_item : Item → Bool
is_item (atomItem a) = is_atom a
is_item list_start = true
is_item list_end = true

-- what may follow it
abbrev pub may_precede : Item → List ℕ → Bool
may_precede (atomItem a) r = stops r
may_precede list_start r = true
may_precede list_end r = true

token_on : (i : Item) (r : List ℕ) (p : ℕ) → is_item i ≡ true → may_precede i r ≡ true → between (token i ++ r) p ≡ found (lexeme i) p (p + length (token i))
unfolding between class_of
token_on (atomItem a) r p h f = atom_on a r p h f
token_on list_start r p h f = refl
token_on list_end r p h f = refl

pub item_on : (i : Item) (g r : List ℕ) (p : ℕ) → all_blank g ≡ true → is_item i ≡ true → may_precede i r ≡ true
    → between (g ++ token i ++ r) p ≡ found (lexeme i) (p + length g) (p + length (g ++ token i))
item_on i g r p b h f =
    rw append_assoc
    (skip_blanks_lem g (token i ++ r) p b
    ∙ token_on i r (p + length g) h f
    ∙ ap (found (lexeme i) (p + length g)) (rw length-append (omega arith)))
