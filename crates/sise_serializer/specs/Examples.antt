-- Worked examples of the definitions, by computation (document 01, "Refusals" and "serializer.rs: the writer").
-- Assumes nothing.
use Rattle.std.specs.Prelude.{ℕ, ◌≡◌, refl, true, false, List, [], ◌∷◌, map, take}
use Rattle.sise_util.specs.Chars.{within, one_of, is_atom_chr}
use Rattle.sise_util.specs.Classes.{class_of}
use Rattle.sise_util.specs.Atom.{is_atom, outside, inside, escaped}
use Rattle.sise_serializer.specs.Serializer.{Style, style, Answer, refused, accepted, number_of, Written, fresh_serializer, is_sound, place, first_atom, first_list, laid, inner_as, inner, phase_after, close_as, close, last, put_in, put_atom, begin_in, begin_list, end_in, end_list, finish_in, finish_writing}
use Rattle.sise_serializer.specs.declared.serializer.Phase.{Phase}
use Rattle.sise_serializer.specs.declared.serializer.Phase.TheVariants.{Beginning, Writing, Finished, Done}
use Rattle.sise_serializer.specs.declared.serializer.Serializer.{Serializer}
use Rattle.sise_serializer.specs.Bytes.{pasted, repeat}
use Rattle.sise_serializer.specs.Calls.{put_atom_call, begin_list_call, end_list_call, finish_call, largest, step, atom, placed, item_at, run, writing}

-- LF and two spaces
unfoldable pub house : Style
house = style (10 ∷ []) (32 ∷ 32 ∷ [])

-- rows 17 to 19: `a b`; end_list on a fresh writer; `a` put twice
unfoldable pub rows17to19 : List Answer
rows17to19 =
    (put_atom house 9 fresh_serializer (97 ∷ 32 ∷ 98 ∷ []) 0).answer ∷
    (end_list house 9 fresh_serializer).answer ∷
    (put_atom house 9 (put_atom house 9 fresh_serializer (97 ∷ []) 0).serializer (97 ∷ []) 0).answer ∷
    []

pub rows_17_to_19 : rows17to19 ≡ refused 17 ∷ refused 18 ∷ refused 19 ∷ []
unfolding rows17to19 house fresh_serializer is_sound place first_atom put_in put_atom end_in end_list is_atom outside inside escaped class_of is_atom_chr one_of within
rows_17_to_19 = refl

-- rows 20 and 22: finish on a fresh writer; `ab` into 1 byte, and into 2
rows20and22 : List Answer
rows20and22 =
    (finish_writing house 9 fresh_serializer false).answer ∷
    (put_atom house 1 fresh_serializer (97 ∷ 98 ∷ []) 0).answer ∷
    (put_atom house 2 fresh_serializer (97 ∷ 98 ∷ []) 0).answer ∷
    []

rows_20_and_22 : rows20and22 ≡ refused 20 ∷ refused 22 ∷ accepted 0 ∷ []
unfolding rows20and22 house fresh_serializer is_sound place first_atom put_in put_atom finish_in finish_writing is_atom outside inside escaped class_of is_atom_chr one_of within
rows_20_and_22 = refl

-- a list of calls: `)` is refused and no item, `a` is the one item, and `finish` is none
one_item : (writing house (0 ∷ []) (end_list_call ∷ put_atom_call (97 ∷ []) 0 ∷ finish_call false ∷ [])).items ≡ placed (atom (97 ∷ [])) 0 ∷ []
unfolding house run step item_at pasted fresh_serializer is_sound place first_atom last put_in put_atom end_in end_list finish_in finish_writing is_atom outside inside escaped class_of is_atom_chr one_of within
one_item = refl

-- a record with these parts: position, phase, open lists, those with a break in them, line length, spaces, breaks, indents
record_with : ℕ → Phase → ℕ → ℕ → ℕ → ℕ → ℕ → ℕ → Serializer
record_with position phase lists broken line spaces breaks indents = record {
  position = position;
  lists = lists;
  broken = broken;
  line_len = line;
  spaces = spaces;
  breaks = breaks;
  indents = indents;
  phase = phase;
  list_beginning = false;
}

-- the number that finish gives, without a break: 0 where it is accepted
finish_number : Serializer → ℕ
finish_number w = number_of (finish_writing house 16777216 w false).answer

-- each bound of `is_sound`: first a record at the bound, then one past it
at_bounds_lem : List Serializer
at_bounds_lem =
    record_with 16777216 Finished 0 0 0 0 0 0 ∷ record_with 16777217 Finished 0 0 0 0 0 0
    -- line length
    ∷ record_with 5 Finished 0 0 5 0 0 0 ∷ record_with 5 Finished 0 0 6 0 0 0
    -- open lists, and those with a break in them
    ∷ record_with 5 Writing 5 0 0 0 0 0 ∷ record_with 5 Writing 6 0 0 0 0 0
    ∷ record_with 5 Writing 3 3 0 0 0 0 ∷ record_with 5 Writing 3 4 0 0 0 0
    ∷ record_with 5 Writing 1 0 0 0 0 0 ∷ record_with 5 Writing 0 0 0 0 0 0
    ∷ record_with 5 Beginning 0 0 0 0 0 0 ∷ record_with 5 Beginning 1 0 0 0 0 0
    ∷ record_with 5 Finished 0 0 0 0 0 0 ∷ record_with 5 Finished 1 0 0 0 0 0
    ∷ record_with 5 Done 0 0 0 0 0 0 ∷ record_with 5 Done 1 0 0 0 0 0
    -- spaces, breaks, indents
    ∷ record_with 5 Finished 0 0 0 5 0 0 ∷ record_with 5 Finished 0 0 0 6 0 0
    ∷ record_with 5 Finished 0 0 0 0 5 0 ∷ record_with 5 Finished 0 0 0 0 6 0
    ∷ record_with 5 Done 0 0 0 0 6 0 ∷ record_with 5 Done 0 0 0 0 7 0
    ∷ record_with 5 Finished 0 0 0 0 0 30 ∷ record_with 5 Finished 0 0 0 0 0 31
    ∷ []

at_bounds : map finish_number at_bounds_lem ≡ 0 ∷ 11 ∷ 0 ∷ 11 ∷ 20 ∷ 11 ∷ 20 ∷ 11 ∷ 20 ∷ 11 ∷ 20 ∷ 11 ∷ 0 ∷ 11 ∷ 19 ∷ 11 ∷ 0 ∷ 11 ∷ 0 ∷ 11 ∷ 19 ∷ 11 ∷ 0 ∷ 11 ∷ []
unfolding at_bounds_lem finish_number record_with house is_sound place last finish_in finish_writing
at_bounds = refl

-- 11 comes first: a record that is unsound and done, four calls, the first with no atom
unsound_first : List Answer
unsound_first =
    let w = record_with 16777217 Done 0 0 0 0 0 0 in
    (put_atom house 9 w [] 0).answer ∷ (begin_list house 9 w 0).answer ∷ (end_list house 9 w).answer ∷ (finish_writing house 9 w true).answer ∷ []

unsound_first_lem : unsound_first ≡ refused 11 ∷ refused 11 ∷ refused 11 ∷ refused 11 ∷ []
unfolding unsound_first record_with house is_sound put_atom begin_list end_list finish_writing
unsound_first_lem = refl

-- 22: "the call's end lies past the buffer or past 16,777,216". In a buffer of 16,777,300 bytes ` ab`, ` (`, `)` and a final break each end at
-- 16,777,216, and then one byte further
at_limit : List Answer
at_limit =
    (put_atom house 16777300 (record_with 16777213 Writing 1 0 1 0 0 0) (97 ∷ 98 ∷ []) 80).answer
    ∷ (put_atom house 16777300 (record_with 16777214 Writing 1 0 1 0 0 0) (97 ∷ 98 ∷ []) 80).answer
    ∷ (begin_list house 16777300 (record_with 16777214 Writing 1 0 1 0 0 0) 80).answer
    ∷ (begin_list house 16777300 (record_with 16777215 Writing 1 0 1 0 0 0) 80).answer
    ∷ (end_list house 16777300 (record_with 16777215 Writing 1 0 1 0 0 0)).answer
    ∷ (end_list house 16777300 (record_with 16777216 Writing 1 0 1 0 0 0)).answer
    ∷ (finish_writing house 16777300 (record_with 16777215 Finished 0 0 0 0 0 0) true).answer
    ∷ (finish_writing house 16777300 (record_with 16777216 Finished 0 0 0 0 0 0) true).answer
    ∷ []

at_limit_lem : at_limit ≡ accepted 16777214 ∷ refused 22 ∷ accepted 16777215 ∷ refused 22 ∷ accepted 16777215 ∷ refused 22 ∷ accepted 16777216 ∷ refused 22 ∷ []
unfolding at_limit record_with house is_sound place laid inner_as inner phase_after close_as close last put_in put_atom begin_in begin_list end_in end_list finish_in finish_writing is_atom outside inside escaped class_of is_atom_chr one_of within
at_limit_lem = refl

-- 2.6, "the open lists with a break in them": after `(`, `(`, `a` at 0 both of the two lists have one, and a third has none; `)` closes a list that has
-- one, `(`, `b` at largest and `)` one that has none
broken_after : ℕ → ℕ
broken_after n =
    (writing house (repeat 40 (0 ∷ [])) (take n (begin_list_call 0 ∷ begin_list_call largest ∷ put_atom_call (97 ∷ []) 0 ∷ begin_list_call largest ∷ put_atom_call (98 ∷ []) largest ∷ end_list_call ∷ end_list_call ∷ end_list_call ∷ []))
    ).last.broken

broken_after_lem : map broken_after (0 ∷ 1 ∷ 2 ∷ 3 ∷ 4 ∷ 5 ∷ 6 ∷ 7 ∷ 8 ∷ []) ≡ 0 ∷ 0 ∷ 0 ∷ 2 ∷ 2 ∷ 2 ∷ 2 ∷ 1 ∷ 0 ∷ []
unfolding broken_after house run step pasted fresh_serializer is_sound place first_list laid inner_as inner phase_after close_as close put_in put_atom begin_in begin_list end_in end_list is_atom outside inside escaped class_of is_atom_chr one_of within
broken_after_lem = refl

-- 2.6, "The depth limit goes": a 201st list
deep_list : Written
deep_list = begin_list house 300 (record_with 200 Writing 200 0 200 0 0 0) largest

deep_list_lem : deep_list.answer ≡ accepted 201
unfolding deep_list record_with house is_sound place laid inner_as inner begin_in begin_list
deep_list_lem = refl

deep_lists : deep_list.serializer.lists ≡ 201
unfolding deep_list record_with house is_sound place laid inner_as inner begin_in begin_list
deep_lists = refl
