-- The same steps where the code knows a byte by its value: each says which class it has.
-- Assumes nothing.
use mathlib.Core.Path.{◌≡◌, refl, sym, ap, ◌∙◌}
use mathlib.Core.Bool.{Bool, true, false, false≢true}
use mathlib.Core.Logic.{inl, inr, ⊎_elim}
use mathlib.Core.List.{List, [], ◌∷◌}
use Prim.Native.Nat.{ℕ, ◌+◌, ◌-◌, ◌<◌}
use lib.Dec.{eqb}
use lib.ListN.{length, drop, get_or}
use borrow.Author.Tests.{eq-eqb, ne_eqb, eqb-true, eqb-false}
use types.Run.{OneOf}
use Rattle.sise_util.specs.Chars.{is_atom_chr}
use Rattle.sise_util.specs.Classes.{Class, space, quote, tab, atom_chr, line_end, backslash, other, semicolon, left, right, printable, class_of, class_number}
use Rattle.sise_util.proofs.ClassLaws.{semicolon_number, left_number, right_number, quote_number, atom_number}
use Rattle.sise_parser.specs.Lexer.{found, opening, closing, atom, wrong, between, comment, plain, string}
use Rattle.sise_parser.specs.Plain.{is_blank, skip_blanks, atom_run}
use Rattle.sise_parser.specs.Meaning.{Reads}
use Rattle.sise_parser.proofs.Steps as steps

module _ (text : List ℕ) (p : ℕ) (h : p < length text) where
  abbrev b : ℕ
  b = get_or text p 0

  abbrev k : ℕ
  k = class_number (class_of (get_or text p 0))

  reads : Reads text p k
  reads = record { inside = h; class = refl }

  -- a test that says yes gives the class its number, one that says no another
  has : {f : Bool} (m : ℕ) → f ≡ eqb k m → f ≡ true → k ≡ m
  has m e y = eqb-true k m (sym e ∙ y)

  hasn't : {f : Bool} (m : ℕ) → f ≡ eqb k m → f ≡ false → k ≡ m → ⊥
  hasn't m e n = eqb-false k m (sym e ∙ n)

  -- in an atom
  pub plain_atom : (s : ℕ) → is_atom_chr b ≡ true → plain (drop p text) p s ≡ plain (drop (p + 1) text) (p + 1) s
  plain_atom s y = steps.plain_on reads s (has 3 (atom_number b) y)

  pub plain_string_lem : (s : ℕ) → b ≡ 34 → plain (drop p text) p s ≡ string (drop (p + 1) text) (p + 1) s
  plain_string_lem s e = steps.plain_quote reads s (has 1 (quote_number b) (eq-eqb b 34 e))

  pub plain_stop : (s : ℕ) → is_atom_chr b ≡ false → (b ≡ 34 → ⊥) → plain (drop p text) p s ≡ found (atom (p - s)) s p
  plain_stop s n d = steps.plain_stops reads s ((tt, hasn't 3 (atom_number b) n), hasn't 1 (quote_number b) (ne_eqb b 34 d))

  -- between tokens
  pub between_comment : b ≡ 59 → between (drop p text) p ≡ comment (drop (p + 1) text) (p + 1)
  between_comment e = steps.between_semicolon reads (has 7 (semicolon_number b) (eq-eqb b 59 e))

  pub between_open : b ≡ 40 → between (drop p text) p ≡ found opening p (p + 1)
  between_open e = steps.between_left reads (has 8 (left_number b) (eq-eqb b 40 e))

  pub between_close : b ≡ 41 → between (drop p text) p ≡ found closing p (p + 1)
  between_close e = steps.between_right reads (has 9 (right_number b) (eq-eqb b 41 e))

  pub between_atom : is_atom_chr b ≡ true → between (drop p text) p ≡ plain (drop p text) p p
  between_atom y = steps.between_atom reads (inr (has 3 (atom_number b) y))

  pub between_string : b ≡ 34 → between (drop p text) p ≡ plain (drop p text) p p
  between_string e = steps.between_atom reads (inl (has 1 (quote_number b) (eq-eqb b 34 e)))

  -- no byte that begins a token or is a blank
  pub between_wrong : is_blank (class_of b) ≡ false → (b ≡ 40 → ⊥) → (b ≡ 41 → ⊥) → (b ≡ 59 → ⊥) → is_atom_chr b ≡ false → (b ≡ 34 → ⊥)
      → between (drop p text) p ≡ wrong 1 (drop p text) p
  between_wrong blank l r semi n q =
      steps.between_wrong reads blank
      ((((tt, hasn't 7 (semicolon_number b) (ne_eqb b 59 semi)), hasn't 8 (left_number b) (ne_eqb b 40 l)), hasn't 9 (right_number b) (ne_eqb b 41 r)), no_start)
    where
      no_start : OneOf (1 ∷ 3 ∷ []) k → ⊥
      no_start = ⊎_elim (hasn't 1 (quote_number b) (ne_eqb b 34 q)) (hasn't 3 (atom_number b) n)

  -- over blanks
  pub blanks_on : is_blank (class_of b) ≡ true → skip_blanks (drop p text) p ≡ skip_blanks (drop (p + 1) text) (p + 1)
  unfolding skip_blanks
  blanks_on y = ap (λ (m : List ℕ). skip_blanks m p) (steps.here reads) ∙ rw (y, skip_blanks)

  pub blanks_stop : is_blank (class_of b) ≡ false → skip_blanks (drop p text) p ≡ p
  unfolding skip_blanks
  blanks_stop n = ap (λ (m : List ℕ). skip_blanks m p) (steps.here reads) ∙ rw (n, skip_blanks)

  pub between_on : is_blank (class_of b) ≡ true → between (drop p text) p ≡ between (drop (p + 1) text) (p + 1)
  unfolding between
  between_on y = ap (λ (m : List ℕ). between m p) (steps.here reads) ∙ go (class_of b) refl y
    where
      go : (c : Class) → class_of b ≡ c → is_blank c ≡ true → between (b ∷ drop (p + 1) text) p ≡ between (drop (p + 1) text) (p + 1)
      go space e y = rw (e, between)
      go tab e y = rw (e, between)
      go line_end e y = rw (e, between)
      go quote e y = absurd (false≢true y)
      go atom_chr e y = absurd (false≢true y)
      go backslash e y = absurd (false≢true y)
      go other e y = absurd (false≢true y)
      go semicolon e y = absurd (false≢true y)
      go left e y = absurd (false≢true y)
      go right e y = absurd (false≢true y)
      go printable e y = absurd (false≢true y)

  -- in a run of atom characters
  pub run_on : is_atom_chr b ≡ true → atom_run (drop p text) p ≡ atom_run (drop (p + 1) text) (p + 1)
  unfolding atom_run
  run_on y = ap (λ (m : List ℕ). atom_run m p) (steps.here reads) ∙ rw (y, atom_run)

  pub run_stops : is_atom_chr b ≡ false → atom_run (drop p text) p ≡ p
  unfolding atom_run
  run_stops n = ap (λ (m : List ℕ). atom_run m p) (steps.here reads) ∙ rw (n, atom_run)
