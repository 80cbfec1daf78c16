-- Document 01's worked examples of the reader, by computation: the table of refusals, rows 1 to 10; the slips that it names; comments, positions
-- after refusals and unsound records; the items of the worked text.
-- Assumes nothing.
use Rattle.std.specs.Prelude.{ℕ, ◌≡◌, refl, List, [], ◌∷◌, map}
use Rattle.sise_util.specs.Chars.{within}
use Rattle.sise_util.specs.Classes.{class_of}
use Rattle.sise_util.specs.Utf8.{character, by_rows, forms, follow}
use Rattle.sise_parser.specs.Refusals.{Refusal, refusal}
use Rattle.sise_parser.specs.Lexer.{wrong, between, comment, plain, string, escape}
use Rattle.sise_parser.specs.Reader.{Answer, item, refused, next, refused_with, reader, fresh_reader, is_sound, token_at, in_beginning, in_parsing, next_in, next_item, after_calls, answers_from, Ending, ended, not_ended, ends_at, finish_in, finish_reading}
use Rattle.sise_parser.specs.declared.reader.Phase.TheVariants.{Beginning, Parsing, Finishing}
use Rattle.sise_parser.specs.declared.reader.Reader.{Reader}
use Rattle.sise_parser.specs.declared.reader.ParsedItem.TheVariants.{Atom, ListStart, ListEnd}

-- what a call of next_item, or finish, answers after k calls
unfoldable pub asked : List ℕ → ℕ → Answer
asked text k = (next_item text (after_calls text k)).answer

unfoldable pub finish_after : List ℕ → ℕ → Ending
finish_after text k = finish_reading text (after_calls text k)

-- the refusal of an answer; 0 if it is none
abbrev pub refusal_in : Answer → Refusal
refusal_in (item i) = refusal 0 0 0
refusal_in (refused e) = e

abbrev pub refusal_at_end : Ending → Refusal
refusal_at_end ended = refusal 0 0 0
refusal_at_end (not_ended e) = e

-- rows 1 to 10: `[`; `"` then tab; `;` then 0x7F; `"a`; the empty text; `)`; `a b`, finish; 0xC3 0x28; `a`, second next_item; `a`, finish first
unfoldable pub rows1to10 : List Refusal
rows1to10 =
    refusal_in (asked (91 ∷ []) 0) ∷
    refusal_in (asked (34 ∷ 9 ∷ []) 0) ∷
    refusal_in (asked (59 ∷ 127 ∷ []) 0) ∷
    refusal_in (asked (34 ∷ 97 ∷ []) 0) ∷
    refusal_in (asked ([]) 0) ∷
    refusal_in (asked (41 ∷ []) 0) ∷
    refusal_at_end (finish_after (97 ∷ 32 ∷ 98 ∷ []) 1) ∷
    refusal_in (asked (195 ∷ 40 ∷ []) 0) ∷
    refusal_in (asked (97 ∷ []) 1) ∷
    refusal_at_end (finish_after (97 ∷ []) 0) ∷
    []

pub rows_1_to_10 : rows1to10 ≡
    refusal 1 0 91 ∷
    refusal 2 1 9 ∷
    refusal 3 1 127 ∷
    refusal 4 2 0 ∷
    refusal 5 0 0 ∷
    refusal 6 0 0 ∷
    refusal 7 2 0 ∷
    refusal 8 0 0 ∷
    refusal 9 0 0 ∷
    refusal 10 0 0 ∷
    []
unfolding rows1to10 asked finish_after after_calls next_item next_in is_sound token_at in_beginning in_parsing finish_reading finish_in ends_at between comment plain string escape wrong class_of character by_rows forms follow within
rows_1_to_10 = refl

-- a comment that meets the end after the last item is the end; the place of `"\` is 2; a tab may not stand in a string
pub slips : finish_after (97 ∷ 59 ∷ 98 ∷ []) 1 ≡ ended
unfolding asked finish_after after_calls next_item next_in is_sound token_at in_beginning in_parsing finish_reading finish_in ends_at between comment plain string escape wrong class_of character by_rows forms follow within
slips = refl

pub escape_at_end : asked (34 ∷ 92 ∷ []) 0 ≡ refused (refusal 4 2 0)
unfolding asked finish_after after_calls next_item next_in is_sound token_at in_beginning in_parsing finish_reading finish_in ends_at between comment plain string escape wrong class_of character by_rows forms follow within
escape_at_end = refl

-- `;`, tab, `a`, CR, `b`: a comment has tabs in it, and ends at CR as at LF
pub comments : asked (59 ∷ 9 ∷ 97 ∷ 13 ∷ 98 ∷ []) 0 ∷ asked (59 ∷ 9 ∷ 97 ∷ 10 ∷ 98 ∷ []) 0 ∷ [] ≡ item (Atom 4 1) ∷ item (Atom 4 1) ∷ []
unfolding asked after_calls next_item next_in is_sound token_at in_beginning between comment plain class_of
comments = refl

-- the position after 6 and after 8: `)a`; 0xC3 0x28; the same in a list, `(` 0xC3 0x28
pub after_6_and_8 : next_item (41 ∷ 97 ∷ []) fresh_reader ∷ next_item (195 ∷ 40 ∷ []) fresh_reader ∷ next_item (40 ∷ 195 ∷ 40 ∷ []) (reader 1 Parsing 1) ∷ [] ≡
    next (reader 1 Beginning 0) (refused (refusal 6 0 0)) ∷
    next (reader 1 Beginning 0) (refused (refusal 8 0 0)) ∷
    next (reader 2 Parsing 1) (refused (refusal 8 1 0)) ∷
    []
unfolding next_item next_in is_sound token_at in_beginning in_parsing between wrong class_of character by_rows forms follow within
after_6_and_8 = refl

-- request 2.7: its own two, 0xE2 0x82 0x28 and 0xC0 0xAF; the first in a string and in a comment; 0xF1 0x80 0x80 at the end of a list's text
pub after_8 :
    next_item (0xE2 ∷ 0x82 ∷ 0x28 ∷ []) fresh_reader ∷
    next_item (0xC0 ∷ 0xAF ∷ []) fresh_reader ∷
    next_item (34 ∷ 0xE2 ∷ 0x82 ∷ 0x28 ∷ []) fresh_reader ∷
    next_item (59 ∷ 0xE2 ∷ 0x82 ∷ 0x28 ∷ []) fresh_reader ∷
    next_item (40 ∷ 0xF1 ∷ 0x80 ∷ 0x80 ∷ []) (reader 1 Parsing 1) ∷
    [] ≡
    next (reader 2 Beginning 0) (refused (refusal 8 0 0)) ∷
    next (reader 1 Beginning 0) (refused (refusal 8 0 0)) ∷
    next (reader 3 Beginning 0) (refused (refusal 8 1 0)) ∷
    next (reader 3 Beginning 0) (refused (refusal 8 1 0)) ∷
    next (reader 4 Parsing 1) (refused (refusal 8 1 0)) ∷
    []
unfolding next_item next_in is_sound token_at in_beginning in_parsing between comment string wrong class_of character by_rows forms follow within
after_8 = refl

-- from fault to fault: 0xE2 0x82 and 0xF1 0x80 0x80 in a row, then `(`, are two; 0xE0 0x80, whose second byte is no part of the first's character, too
pub fault_to_fault :
    answers_from (0xE2 ∷ 0x82 ∷ 0xF1 ∷ 0x80 ∷ 0x80 ∷ 0x28 ∷ []) fresh_reader 3 ∷ answers_from (0xE0 ∷ 0x80 ∷ 0x28 ∷ []) fresh_reader 3 ∷ [] ≡
    (refused (refusal 8 0 0) ∷ refused (refusal 8 2 0) ∷ item (ListStart 5) ∷ []) ∷
    (refused (refusal 8 0 0) ∷ refused (refusal 8 1 0) ∷ item (ListStart 2) ∷ []) ∷
    []
unfolding answers_from next_item next_in is_sound token_at in_beginning between wrong class_of character by_rows forms follow within
fault_to_fault = refl

-- records at the bounds of soundness over `((`: a position past the text; more open lists than the position; an open list in beginning and in
-- finishing; none while parsing
unfoldable pub unsound_readers : List Reader
unsound_readers = reader 3 Beginning 0 ∷ reader 1 Parsing 2 ∷ reader 1 Beginning 1 ∷ reader 1 Finishing 1 ∷ reader 1 Parsing 0 ∷ []

pub unsound_next : map (λ r. (next_item (40 ∷ 40 ∷ []) r).answer) unsound_readers ≡ refused_with 11 ∷ refused_with 11 ∷ refused_with 11 ∷ refused_with 11 ∷ refused_with 11 ∷ []
unfolding unsound_readers next_item is_sound
unsound_next = refl

pub unsound_finish : map (finish_reading (40 ∷ 40 ∷ [])) unsound_readers ≡
    not_ended (refusal 11 0 0) ∷ not_ended (refusal 11 0 0) ∷ not_ended (refusal 11 0 0) ∷ not_ended (refusal 11 0 0) ∷ not_ended (refusal 11 0 0) ∷ []
unfolding unsound_readers finish_reading is_sound
unsound_finish = refl

-- and a sound one at both bounds at once, whose position is the text's end and whose lists are as many
pub sound_at_bounds : next_item (40 ∷ 40 ∷ []) (reader 2 Parsing 2) ≡ next (reader 2 Parsing 2) (refused (refusal 5 2 0))
unfolding next_item next_in is_sound token_at in_parsing between
sound_at_bounds = refl

-- `(z (+1 "a b") ~)`
unfoldable pub worked_text : List ℕ
worked_text = 40 ∷ 122 ∷ 32 ∷ 40 ∷ 43 ∷ 49 ∷ 32 ∷ 34 ∷ 97 ∷ 32 ∷ 98 ∷ 34 ∷ 41 ∷ 32 ∷ 126 ∷ 41 ∷ []

pub worked_items_lem : answers_from worked_text fresh_reader 8 ≡
    item (ListStart 0) ∷
    item (Atom 1 1) ∷
    item (ListStart 3) ∷
    item (Atom 4 2) ∷
    item (Atom 7 5) ∷
    item (ListEnd 12) ∷
    item (Atom 14 1) ∷
    item (ListEnd 15) ∷
    []
unfolding worked_text answers_from asked finish_after after_calls next_item next_in is_sound token_at in_beginning in_parsing finish_reading finish_in ends_at between comment plain string escape wrong class_of character by_rows forms follow within
worked_items_lem = refl

pub worked_finish : finish_after worked_text 8 ≡ ended
unfolding worked_text asked finish_after after_calls next_item next_in is_sound token_at in_beginning in_parsing finish_reading finish_in ends_at between comment plain string escape wrong class_of character by_rows forms follow within
worked_finish = refl
