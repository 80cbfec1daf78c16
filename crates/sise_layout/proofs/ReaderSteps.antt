-- One call of the reader at a record that stands before the rest of a text.
-- Assumes nothing.
use Prim.Native.Nat.{ℕ, ◌+◌, ◌≤◌}
use native.Mathlib.Omega.{arith}
use mathlib.Core.Path.{◌≡◌, ap}
use mathlib.Core.Bool.{true}
use mathlib.Core.List.{List, [], ◌++◌, append_assoc, append-nil}
use lib.Dec.{leb}
use lib.ListN.{length, length-append}
use lib.Seq.{drop_at, drop-append-add, drop-append_seam, take-append_seam}
use borrow.Author.Tests.{le-leb}
use Rattle.sise_parser.specs.Refusals.{refusal}
use Rattle.sise_parser.specs.Lexer.{Lexed, between}
use Rattle.sise_parser.specs.Reader.{reader, lists_fit, is_sound, Next, next, refused_with, token_at, in_beginning, in_parsing, next_in, next_item, finish_in, finish_reading, ended, not_ended, ends_at}
use Rattle.sise_parser.specs.declared.reader.Phase.{Phase}
use Rattle.sise_parser.specs.declared.reader.Phase.TheVariants.{Beginning, Parsing, Finishing}
use Rattle.sise_serializer.specs.Calls.{Item, atom, list_start, list_end, placed}
use Rattle.sise_layout.specs.Texts.{all_blank}
use Rattle.sise_layout.specs.Reading.{Stands}
use Rattle.sise_layout.proofs.Lexing.{token, skip_blanks_lem}
use Rattle.sise_util.proofs.Ranges.{both}

-- what a token gives before the end, by the phase
abbrev pub taken : Phase → ℕ → Lexed → Next
taken Beginning n x = in_beginning n x
taken Parsing n x = in_parsing n x
taken Finishing n x = in_parsing n x

pub data Going : Phase → Type 0 where
  first : Going Beginning
  inside : Going Parsing

module _ (pre rest : List ℕ) (p n : ℕ) (here : length pre ≡ p) (small : n ≤ p) where
  sound_at : (f : Phase) → lists_fit f n ≡ true → is_sound (length (pre ++ rest)) (reader p f n) ≡ true
  unfolding is_sound
  sound_at f fit =
      both (leb p (length (pre ++ rest))) _ (le-leb p (length (pre ++ rest)) (rw length-append (omega arith)))
      (both (leb n p) _ (le-leb n p small) fit)

  pub next_at : {f : Phase} → Going f → lists_fit f n ≡ true → next_item (pre ++ rest) (reader p f n) ≡ taken f n (between rest p)
  unfolding next_item next_in token_at
  next_at first fit = rw (sound_at Beginning fit, next_item, drop_at pre rest p here)
  next_at inside fit = rw (sound_at Parsing fit, next_item, drop_at pre rest p here)

  pub early_at : {f : Phase} → Going f → lists_fit f n ≡ true → finish_reading (pre ++ rest) (reader p f n) ≡ not_ended (refusal 10 0 0)
  unfolding finish_reading finish_in
  early_at first fit = rw (sound_at Beginning fit, finish_reading)
  early_at inside fit = rw (sound_at Parsing fit, finish_reading)

  pub next_over : lists_fit Finishing n ≡ true → next_item (pre ++ rest) (reader p Finishing n) ≡ next (reader p Finishing n) (refused_with 9)
  unfolding next_item next_in
  next_over fit = rw (sound_at Finishing fit, next_item)

  pub end_over : lists_fit Finishing n ≡ true → all_blank rest ≡ true → finish_reading (pre ++ rest) (reader p Finishing n) ≡ ended
  unfolding finish_reading finish_in token_at between ends_at
  end_over fit b = rw (sound_at Finishing fit, finish_reading, drop_at pre rest p here) (ap ends_at blank_end)
    where
      blank_end : between rest p ≡ between [] (p + length rest)
      blank_end = rw append-nil at (skip_blanks_lem rest [] p b)

pub stands_at : (i : Item) (pre g r : List ℕ) (p : ℕ) → length pre ≡ p → Stands (pre ++ (g ++ token i ++ r)) (placed i (p + length g))
unfolding Stands
stands_at (atom a) pre g r p e = rw (← e, drop-append-add, append_assoc, drop-append_seam, take-append_seam)
stands_at list_start pre g r p e = tt
stands_at list_end pre g r p e = tt
