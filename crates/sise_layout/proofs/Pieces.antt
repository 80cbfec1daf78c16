-- What an accepted item adds to the text: all that the inductions over lists of calls need of it, proved for each of the five kinds of piece.
-- Assumes nothing.
use Prim.Native.Nat.{ℕ, zero, suc, ◌+◌, ◌-◌, ◌*◌, ◌≤◌, ◌<◌}
use native.Mathlib.Numerals.{add-one}
use native.Mathlib.Omega.{arith}
use mathlib.Core.Path.{◌≡◌, refl, sym}
use mathlib.Core.Bool.{Bool, true, false, not, cond, false≢true}
use mathlib.Core.List.{List, [], ◌∷◌, ◌++◌, append_assoc}
use lib.Dec.{eqb, ltb}
use lib.ListN.{length}
use borrow.Author.Tests.{eqb-true, eqb-false, leb-true, ne_eqb}
use Rattle.sise_util.specs.Chars.{one_of}
use Rattle.sise_util.specs.Classes.{class_of}
use Rattle.sise_util.specs.Atom.{is_atom}
use Rattle.sise_util.proofs.Ranges.{split}
use Rattle.sise_parser.specs.Lexer.{found}
use Rattle.sise_parser.specs.Reader.{next, reader, in_beginning, in_parsing}
use Rattle.sise_parser.specs.declared.reader.Phase as reader_phase
use Rattle.sise_parser.specs.declared.reader.Phase.TheVariants as at
use Rattle.sise_serializer.specs.Serializer.{Style, Piece, first_atom, first_list, Gap, new_line, nothing, space, gap_at, new_line_of, laid, inner_as, inner, phase_after, close_as, close}
use Rattle.sise_serializer.specs.declared.serializer.Phase.{Phase}
use Rattle.sise_serializer.specs.declared.serializer.Phase.TheVariants.{Beginning, Writing, Finished, Done}
use Rattle.sise_serializer.specs.declared.serializer.Serializer.{Serializer}
use Rattle.sise_serializer.specs.Calls.{Item, atom, list_start, list_end, placed}
use Rattle.sise_serializer.proofs.Sound.{Sound}
use Rattle.sise_layout.specs.Texts.{all_blank, Blank}
use Rattle.sise_layout.specs.Reading.{as_read}
use Rattle.sise_layout.proofs.Lexing.{stops, token, lexeme, is_item, may_precede}
use Rattle.sise_layout.proofs.Blanks.{new_line-length, new_line-blank, new_line-stops}
use Rattle.sise_layout.proofs.ReaderSteps.{taken, Going, first, inside}

-- the reader's phase where the writer's is this
abbrev pub phase_of : Phase → reader_phase.Phase
phase_of Beginning = at.Beginning
phase_of Writing = at.Parsing
phase_of Finished = at.Finishing
phase_of Done = at.Finishing

-- whatever is written next ends an atom
abbrev settled_in : Phase → Bool → Bool
settled_in Beginning b = false
settled_in Writing b = not b
settled_in Finished b = true
settled_in Done b = true

abbrev pub settled : Serializer → Bool
settled w = settled_in w.phase w.list_beginning

-- the bytes of the layout so far, by the counts
abbrev pub layout_bytes : Style → ℕ → ℕ → ℕ → ℕ
layout_bytes s spaces breaks indents = spaces + breaks * length s.line_break + indents * length s.indentation

abbrev pub layout_of : Style → Serializer → ℕ
layout_of s w = layout_bytes s w.spaces w.breaks w.indents

-- an item's bytes; a list start pays for its list end
abbrev pub item_bytes : Item → ℕ
item_bytes (atom a) = length a
item_bytes list_start = 2
item_bytes list_end = 0

-- how an item turns phase and open lists
pub data Turns : Phase → ℕ → Item → Phase → ℕ → Type 0 where
  only : (a : List ℕ) → Turns Beginning 0 (atom a) Finished 0
  begins : Turns Beginning 0 list_start Writing 1
  holds : {n : ℕ} (a : List ℕ) → Turns Writing (suc n) (atom a) Writing (suc n)
  deepens : {n : ℕ} → Turns Writing (suc n) list_start Writing (suc (suc n))
  shallower : {n : ℕ} → Turns Writing (suc (suc n)) list_end Writing (suc n)
  ending : Turns Writing 1 list_end Finished 0

-- the piece p adds the item i
pub record Adds (s : Style) (w : Serializer) (i : Item) (p : Piece) : Type 0 where
  pub bytes : p.token ≡ token i
  pub proper : is_item i ≡ true
  pub blank : Blank s → all_blank p.layout ≡ true
  pub position : p.after.position ≡ w.position + length p.layout + length p.token
  pub going : Going (phase_of w.phase)
  pub taken : (o q : ℕ) → taken (phase_of w.phase) w.lists (found (lexeme i) o q) ≡ next (reader q (phase_of p.after.phase) p.after.lists) (as_read (placed i o))
  pub follow : (r : List ℕ) → (settled p.after ≡ true → stops r ≡ true) → may_precede i r ≡ true
  pub apart : Blank s → settled w ≡ true → (r : List ℕ) → stops (p.layout ++ p.token ++ r) ≡ true
  pub turns : Turns w.phase w.lists i p.after.phase p.after.lists
  pub paid : length p.layout + length p.token + layout_of s w + p.after.lists ≡ item_bytes i + layout_of s p.after + w.lists

module _ (s : Style) (w : Serializer) (i : Sound w) (f : w.phase ≡ Beginning) where
  none_open : w.lists ≡ 0
  none_open = eqb-true w.lists 0 (rw f at i.checked.opens)

  going_first : Going (phase_of w.phase)
  going_first = rw f first

  pub first_atom_lem : (a : List ℕ) → is_atom a ≡ true → Adds s w (atom a) (first_atom w a)
  unfolding first_atom in_beginning as_read
  first_atom_lem a h = record {
    bytes = refl;
    proper = h;
    blank = λ b. refl;
    position = omega arith;
    going = going_first;
    taken = λ o q. rw (f, none_open) refl;
    follow = λ r g. g refl;
    apart = λ b g. absurd (false≢true (rw f at g));
    turns = rw (f, none_open) (only a);
    paid = rw none_open (omega arith);
  }

  pub first_list_lem : Adds s w list_start (first_list w)
  unfolding first_list in_beginning as_read
  first_list_lem = record {
    bytes = refl;
    proper = refl;
    blank = λ b. refl;
    position = omega arith;
    going = going_first;
    taken = λ o q. rw f refl;
    follow = λ r g. refl;
    apart = λ b g. absurd (false≢true (rw f at g));
    turns = rw (f, none_open) begins;
    paid = rw none_open (omega arith);
  }

-- a gap in a list: a new line, nothing, or a space
module _ (s : Style) (w : Serializer) where
  laid_blank : (g : Gap) → Blank s → all_blank (laid g s w).bytes ≡ true
  unfolding laid one_of
  laid_blank new_line b = new_line-blank s w.lists b
  laid_blank nothing b = refl
  laid_blank space b = refl

  abbrev is_nothing : Gap → Bool
  is_nothing new_line = false
  is_nothing nothing = true
  is_nothing space = false

  laid_stops : (g : Gap) (r : List ℕ) → is_nothing g ≡ false → Blank s → stops ((laid g s w).bytes ++ r) ≡ true
  unfolding laid class_of
  laid_stops new_line r n b = new_line-stops s w.lists r b
  laid_stops nothing r n b = absurd (false≢true (sym n))
  laid_stops space r n b = refl

  laid_paid : (g : Gap) → length (laid g s w).bytes + layout_of s w ≡ layout_bytes s (laid g s w).spaces (laid g s w).breaks (laid g s w).indents
  unfolding laid
  laid_paid new_line = rw (new_line-length s w.lists) (omega arith)
  laid_paid nothing = omega arith
  laid_paid space = omega arith

  some_gap : (t : ℕ) → w.list_beginning ≡ false → is_nothing (gap_at w t) ≡ false
  some_gap t e = split (ltb w.line_len t) (λ d. rw (d, e)) (λ d. rw d)

module _ (s : Style) (w : Serializer) (t : ℕ) (i : Sound w) (f : w.phase ≡ Writing) where
  abbrev gap : Gap
  gap = gap_at w t

  going_inside : Going (phase_of w.phase)
  going_inside = rw f inside

  -- one list at least is open
  some_lists : (P : ℕ → Type 0) → ((m : ℕ) → P (suc m)) → P w.lists
  some_lists P h = go w.lists refl
    where
      go : (n : ℕ) → w.lists ≡ n → P n
      go zero e = absurd (false≢true (rw (f, e) at i.checked.opens))
      go (suc m) e = h m

  not_beginning : settled w ≡ true → w.list_beginning ≡ false
  not_beginning g = split w.list_beginning (λ e. absurd (false≢true (rw (f, e) at g))) (λ e. e)

  inner_apart : (a : List ℕ) → Blank s → settled w ≡ true → (r : List ℕ) → stops ((laid gap s w).bytes ++ a ++ r) ≡ true
  inner_apart a b g r = rw append_assoc (laid_stops s w gap (a ++ r) (some_gap s w t (not_beginning g)) b)

  pub inner_atom : (a : List ℕ) → is_atom a ≡ true → Adds s w (atom a) (inner s w a false t)
  unfolding inner inner_as in_parsing as_read
  inner_atom a h = record {
    bytes = refl;
    proper = h;
    blank = laid_blank s w gap;
    position = refl;
    going = going_inside;
    taken = λ o q. rw f refl;
    follow = λ r g. g refl;
    apart = inner_apart a;
    turns = rw f (some_lists (λ n. Turns Writing n (atom a) Writing n) (λ m. holds a));
    paid = omega (arith, laid_paid s w gap);
  }

  pub inner_list : Adds s w list_start (inner s w (40 ∷ []) true t)
  unfolding inner inner_as in_parsing as_read
  inner_list = record {
    bytes = refl;
    proper = refl;
    blank = laid_blank s w gap;
    position = refl;
    going = going_inside;
    taken = λ o q. rw f refl;
    follow = λ r g. refl;
    apart = inner_apart (40 ∷ []);
    turns = rw f (some_lists (λ n. Turns Writing n list_start Writing (n + 1)) (λ m. rw add-one deepens));
    paid = omega (arith, laid_paid s w gap);
  }

-- the close of a list, broken or not
module _ (s : Style) (w : Serializer) (i : Sound w) (f : w.phase ≡ Writing) where
  one_open : 1 ≤ w.lists
  one_open = leb-true 1 w.lists (rw f at i.checked.opens)

  after_last : w.lists ≡ 1 → phase_after (w.lists - 1) ≡ Finished
  unfolding phase_after
  after_last e = rw e

  left_open : (n : ℕ) → phase_after (suc n) ≡ Writing
  unfolding phase_after
  left_open n = rw (ne_eqb (suc n) 0 (λ e. omega arith))

  after_inner : 1 < w.lists → phase_after (w.lists - 1) ≡ Writing
  unfolding phase_after
  after_inner h = rw (ne_eqb (w.lists - 1) 0 (λ e. omega arith))

  close_taken : (o q : ℕ) → taken (phase_of w.phase) w.lists (found (lexeme list_end) o q) ≡ next (reader q (phase_of (phase_after (w.lists - 1))) (w.lists - 1)) (as_read (placed list_end o))
  unfolding in_parsing as_read
  close_taken o q =
      split (eqb w.lists 1)
      (λ e. let n : w.lists ≡ 1 = eqb-true w.lists 1 e in rw (after_last n, f, n))
      (λ e. let n : 1 < w.lists = omega (arith, eqb-false w.lists 1 e, one_open) in rw (after_inner n, f, e))

  close_turns : Turns Writing w.lists list_end (phase_after (w.lists - 1)) (w.lists - 1)
  close_turns = go w.lists refl
    where
      go : (n : ℕ) → w.lists ≡ n → Turns Writing n list_end (phase_after (n - 1)) (n - 1)
      go zero e = absurd (omega (arith, one_open))
      go (suc zero) e = unfold phase_after in ending
      go (suc (suc n)) e = let z : suc (suc n) - 1 ≡ suc n = omega arith in rw (z, left_open n) shallower

  close_blank : (b : Bool) → Blank s → all_blank (cond b (new_line_of s (w.lists - 1)) []) ≡ true
  close_blank true b = new_line-blank s (w.lists - 1) b
  close_blank false b = refl

  close_apart : (b : Bool) → Blank s → (r : List ℕ) → stops (cond b (new_line_of s (w.lists - 1)) [] ++ 41 ∷ [] ++ r) ≡ true
  unfolding class_of
  close_apart true b r = rw (append_assoc (new_line_of s (w.lists - 1))) (new_line-stops s (w.lists - 1) (41 ∷ r) b)
  close_apart false b r = refl

  close_paid : (b : Bool) → length (close_as s w b).layout + 1 + layout_of s w + (w.lists - 1) ≡ layout_of s (close_as s w b).after + w.lists
  unfolding close_as
  close_paid true = rw (new_line-length s (w.lists - 1)) (omega (arith, one_open))
  close_paid false = omega (arith, one_open)

  close_adds : (b : Bool) → Adds s w list_end (close_as s w b)
  unfolding close_as
  close_adds b = record {
    bytes = refl;
    proper = refl;
    blank = close_blank b;
    position = refl;
    going = rw f inside;
    taken = close_taken;
    follow = λ r g. refl;
    apart = λ bl g. close_apart b bl;
    turns = rw f close_turns;
    paid = omega (arith, close_paid b);
  }

  pub close_list : Adds s w list_end (close s w)
  unfolding close
  close_list = close_adds (eqb w.broken w.lists)
