-- What the writer answers and writes (document 01, "serializer.rs: the writer" and "Refusals", with request 2.6 of document 02).
-- Assumes nothing.
use Rattle.std.specs.Prelude.{ℕ, ◌+◌, ◌-◌, ◌*◌, min, ◌≡◌, Bool, true, false, ◌&&◌, cond, List, [], ◌∷◌, ◌++◌, leb, ltb, eqb, length, Result, Ok, Err}
use Rattle.sise_util.specs.Atom.{is_atom}
use Rattle.sise_parser.specs.Refusals.{Refusal, refusal}
use Rattle.sise_serializer.specs.Bytes.{pasted, repeat}
use Rattle.sise_serializer.specs.declared.buffer.SerializerStyle.{SerializerStyle}
use Rattle.sise_serializer.specs.declared.serializer.Phase.{Phase}
use Rattle.sise_serializer.specs.declared.serializer.Phase.TheVariants.{Beginning, Writing, Finished, Done}
use Rattle.sise_serializer.specs.declared.serializer.Serializer.{Serializer}
use Rattle.sise_serializer.specs.declared.serializer.WriteError.{WriteError}
use Rattle.sise_serializer.specs.declared.serializer.WriteError.TheVariants.{UnsoundRecord, InvalidAtom, NoListToEnd, WritingFinished, WritingNotFinished, NoRoom}
use Rattle.sise_serializer.specs.declared.serializer.Wrote.{Wrote}

-- the two strings that the caller lends for layout
pub record Style : Type 0 where
  pub line_break : List ℕ
  pub indentation : List ℕ

abbrev pub style : List ℕ → List ℕ → Style
style b i = record { line_break = b; indentation = i }

-- those that the code's style points to
abbrev pub style_of : SerializerStyle → Style
style_of s = style s.line_break.now s.indentation.now

-- 22's limit
abbrev pub limit : ℕ
limit = 16777216

-- "Each starts at 0"
unfoldable pub fresh_serializer : Serializer
fresh_serializer = record {
  position = 0;
  lists = 0;
  broken = 0;
  line_len = 0;
  spaces = 0;
  breaks = 0;
  indents = 0;
  phase = Beginning;
  list_beginning = false;
}

-- ---- sound records

-- "D ... at least 1 exactly in writing"
abbrev pub lists_fit : Phase → ℕ → Bool
lists_fit Beginning n = eqb n 0
lists_fit Writing n = leb 1 n
lists_fit Finished n = eqb n 0
lists_fit Done n = eqb n 0

-- "breaks one more when done"
abbrev pub last_break : Phase → ℕ
last_break Beginning = 0
last_break Writing = 0
last_break Finished = 0
last_break Done = 1

-- "Sound: position at most 16,777,216; line length at most position"; D "at most its position"; "the open lists with a break in them, at most D"; D "at
-- least 1 exactly in writing; spaces and breaks at most position, breaks one more when done"; "indents at most position × (position + 1)"
unfoldable pub is_sound : Serializer → Bool
is_sound w =
    leb w.position limit
    && (leb w.line_len w.position
    && (leb w.lists w.position
    && (leb w.broken w.lists
    && (lists_fit w.phase w.lists
    && (leb w.spaces w.position
    && (leb w.breaks (w.position + last_break w.phase)
    && leb w.indents (w.position * (w.position + 1))))))))

-- ---- answers

pub data Answer : Type 0 where
  -- the offset of what was written
  accepted : ℕ → Answer
  -- a refusal's number
  refused : ℕ → Answer

-- the number of each refusal of the code
abbrev pub error_number : WriteError → ℕ
error_number UnsoundRecord = 11
error_number InvalidAtom = 17
error_number NoListToEnd = 18
error_number WritingFinished = 19
error_number WritingNotFinished = 20
error_number NoRoom = 22

-- it has no place and no code point
abbrev pub write_refusal : WriteError → Refusal
write_refusal e = refusal (error_number e) 0 0

-- the offset, or the number, of each answer of the code
abbrev pub answer_as : Result ℕ WriteError → Answer
answer_as (Ok offset) = accepted offset
answer_as (Err e) = refused (error_number e)

-- a refusal's number, and 0 where there is none
abbrev pub number_of : Answer → ℕ
number_of (accepted offset) = 0
number_of (refused n) = n

-- the record after a call, its answer, and the bytes that it writes from the old position on
pub record Written : Type 0 where
  pub serializer : Serializer
  pub answer : Answer
  pub bytes : List ℕ

-- "A refused writer call leaves its record", and writes nothing
abbrev pub refuse : ℕ → Serializer → Written
refuse n w = record { serializer = w; answer = refused n; bytes = [] }

-- what a call promises, that began with the record w and the buffer `before` and ended with the result r and the buffer `now`: it does as d says
pub record DoesAs (d : Written) (w : Serializer) (before : List ℕ) (r : Wrote WriteError) (now : List ℕ) : Type 0 where
  pub serializer : r.serializer ≡ d.serializer
  pub answer : answer_as r.answer ≡ d.answer
  pub buffer : now ≡ pasted before w.position d.bytes

-- ---- what a call adds where it fits: layout, then a token; and the record after it

pub record Piece : Type 0 where
  pub layout : List ℕ
  pub token : List ℕ
  pub after : Serializer

-- 22: "the call's end lies past the buffer", of room bytes, "or past 16,777,216"; an accepted item "answers with its offset"
unfoldable pub place : ℕ → Serializer → Piece → Written
place room w p =
    cond (leb (w.position + length p.layout + length p.token) (min room limit))
    (record { serializer = p.after; answer = accepted (w.position + length p.layout); bytes = p.layout ++ p.token })
    (refuse 22 w)

-- "Beginning: an atom is written, phase finished, line length still 0"
unfoldable pub first_atom : Serializer → List ℕ → Piece
first_atom w a = record {
  layout = [];
  token = a;
  after = record {
    position = w.position + length a;
    lists = 0;
    broken = 0;
    line_len = w.line_len;
    spaces = w.spaces;
    breaks = w.breaks;
    indents = w.indents;
    phase = Finished;
    list_beginning = w.list_beginning;
  };
}

-- "`(` gives D = 1, list-beginning, not broken, line length 1"
unfoldable pub first_list : Serializer → Piece
first_list w = record {
  layout = [];
  token = 40 ∷ [];
  after = record {
    position = w.position + 1;
    lists = 1;
    broken = 0;
    line_len = 1;
    spaces = w.spaces;
    breaks = w.breaks;
    indents = w.indents;
    phase = Writing;
    list_beginning = true;
  };
}

-- what stands between an item in a list and what is before it
pub data Gap : Type 0 where
  new_line nothing space : Gap

-- "if line length < threshold, a space unless list-beginning ...; else line_break"
abbrev pub gap_at : Serializer → ℕ → Gap
gap_at w t = cond (ltb w.line_len t) (cond w.list_beginning nothing space) new_line

-- a line break and n indentations
abbrev pub new_line_of : Style → ℕ → List ℕ
new_line_of s n = s.line_break ++ repeat n s.indentation

-- a gap's bytes, and the line length, the lists with a break in them and the counts after it
pub record Laid : Type 0 where
  pub bytes : List ℕ
  pub line : ℕ
  pub broken : ℕ
  pub spaces : ℕ
  pub breaks : ℕ
  pub indents : ℕ

-- "line_break, D indentations, then the item; the innermost list is broken, and line length = indentation bytes + item bytes". 2.6: "a break anywhere in
-- a list breaks it by its close", so all open lists have a break in them then
unfoldable pub laid : Gap → Style → Serializer → Laid
laid new_line s w = record {
  bytes = new_line_of s w.lists;
  line = w.lists * length s.indentation;
  broken = w.lists;
  spaces = w.spaces;
  breaks = w.breaks + 1;
  indents = w.indents + w.lists;
}
laid nothing s w = record {
  bytes = [];
  line = w.line_len;
  broken = w.broken;
  spaces = w.spaces;
  breaks = w.breaks;
  indents = w.indents;
}
laid space s w = record {
  bytes = 32 ∷ [];
  line = w.line_len + 1;
  broken = w.broken;
  spaces = w.spaces + 1;
  breaks = w.breaks;
  indents = w.indents;
}

-- an item in a list after a gap: its token, and whether it opens a list. "list-beginning is off for an atom, on for `(`. The new list isn't broken", and
-- so is not counted
unfoldable pub inner_as : Style → Serializer → List ℕ → Bool → Gap → Piece
inner_as s w token isList g =
    let l = laid g s w in
    record {
      layout = l.bytes;
      token = token;
      after = record {
        position = w.position + length l.bytes + length token;
        lists = cond isList (w.lists + 1) w.lists;
        broken = l.broken;
        line_len = l.line + length token;
        spaces = l.spaces;
        breaks = l.breaks;
        indents = l.indents;
        phase = Writing;
        list_beginning = isList;
      };
    }

unfoldable pub inner : Style → Serializer → List ℕ → Bool → ℕ → Piece
inner s w token isList t = inner_as s w token isList (gap_at w t)

-- "The last close gives finished": n lists are left open
unfoldable pub phase_after : ℕ → Phase
phase_after n = cond (eqb n 0) Finished Writing

-- "`)`: if the innermost list is broken, line_break and D − 1 indentations, which restart the line length. Then `)`, one more; list-beginning is
-- off". The lists left open keep their breaks, the closed one's among them: "A broken child makes its parent broken"
unfoldable pub close_as : Style → Serializer → Bool → Piece
close_as s w b =
    let n = w.lists - 1 in
    let gap = cond b (new_line_of s n) [] in
    record {
      layout = gap;
      token = 41 ∷ [];
      after = record {
        position = w.position + length gap + 1;
        lists = n;
        broken = min w.broken n;
        line_len = cond b (n * length s.indentation) w.line_len + 1;
        spaces = w.spaces;
        breaks = cond b (w.breaks + 1) w.breaks;
        indents = cond b (w.indents + n) w.indents;
        phase = phase_after n;
        list_beginning = false;
      };
    }

-- the innermost list has a break in it exactly if all open lists have one
unfoldable pub close : Style → Serializer → Piece
close s w = close_as s w (eqb w.broken w.lists)

-- "finish: line_break if wished; phase done"
unfoldable pub last : Style → Serializer → Bool → Piece
last s w wished =
    let gap = cond wished s.line_break [] in
    record {
      layout = gap;
      token = [];
      after = record {
        position = w.position + length gap;
        lists = w.lists;
        broken = w.broken;
        line_len = w.line_len;
        spaces = w.spaces;
        breaks = cond wished (w.breaks + 1) w.breaks;
        indents = w.indents;
        phase = Done;
        list_beginning = w.list_beginning;
      };
    }

-- ---- the four calls, each in the order of its refusals; room is the buffer's length, t a threshold

-- "`put_atom`: 11, 17, 19, 22"
unfoldable pub put_in : Phase → Style → ℕ → Serializer → List ℕ → ℕ → Written
put_in Beginning s room w a t = place room w (first_atom w a)
put_in Writing s room w a t = place room w (inner s w a false t)
put_in Finished s room w a t = refuse 19 w
put_in Done s room w a t = refuse 19 w

unfoldable pub put_atom : Style → ℕ → Serializer → List ℕ → ℕ → Written
put_atom s room w a t = cond (is_sound w) (cond (is_atom a) (put_in w.phase s room w a t) (refuse 17 w)) (refuse 11 w)

-- "`begin_list`: 11, 19, 22", since 2.6 without 21
unfoldable pub begin_in : Phase → Style → ℕ → Serializer → ℕ → Written
begin_in Beginning s room w t = place room w (first_list w)
begin_in Writing s room w t = place room w (inner s w (40 ∷ []) true t)
begin_in Finished s room w t = refuse 19 w
begin_in Done s room w t = refuse 19 w

unfoldable pub begin_list : Style → ℕ → Serializer → ℕ → Written
begin_list s room w t = cond (is_sound w) (begin_in w.phase s room w t) (refuse 11 w)

-- "`end_list`: 11, 18 or 19, 22"
unfoldable pub end_in : Phase → Style → ℕ → Serializer → Written
end_in Beginning s room w = refuse 18 w
end_in Writing s room w = place room w (close s w)
end_in Finished s room w = refuse 19 w
end_in Done s room w = refuse 19 w

unfoldable pub end_list : Style → ℕ → Serializer → Written
end_list s room w = cond (is_sound w) (end_in w.phase s room w) (refuse 11 w)

-- "Writer `finish`: 11, 20 or 19, 22"
unfoldable pub finish_in : Phase → Style → ℕ → Serializer → Bool → Written
finish_in Beginning s room w wished = refuse 20 w
finish_in Writing s room w wished = refuse 20 w
finish_in Finished s room w wished = place room w (last s w wished)
finish_in Done s room w wished = refuse 19 w

unfoldable pub finish_writing : Style → ℕ → Serializer → Bool → Written
finish_writing s room w wished = cond (is_sound w) (finish_in w.phase s room w wished) (refuse 11 w)
