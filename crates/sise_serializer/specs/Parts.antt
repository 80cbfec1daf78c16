-- What the writer's functions below its calls do.
-- Assumes nothing.
use Rattle.std.specs.Prelude.{ℕ, ◌+◌, ◌-◌, ◌*◌, ◌≤◌, min, Bool, true, false, cond, List, [], ◌∷◌, leb, length, Result, Ok, Err, Option, Some, None, ok_or}
use Rattle.sise_serializer.specs.Serializer.{Style, limit, Piece, place, refuse, Written, inner, phase_after, DoesAs}
use Rattle.sise_serializer.specs.Calls.{Call, Does}
use Rattle.sise_serializer.specs.declared.serializer.Phase.{Phase}
use Rattle.sise_serializer.specs.declared.serializer.Phase.TheVariants.{Beginning, Writing, Finished, Done}
use Rattle.sise_serializer.specs.declared.serializer.Serializer.{Serializer}
use Rattle.sise_serializer.specs.declared.serializer.Placed.{Placed}
use Rattle.sise_serializer.specs.declared.serializer.WriteError.{WriteError}
use Rattle.sise_serializer.specs.declared.serializer.WriteError.TheVariants.{NoRoom}
use Rattle.sise_serializer.specs.declared.serializer.Wrote.{Wrote}
use Rattle.sise_serializer.specs.declared.buffer.Spot.{Spot}

-- where `layout` bytes and then `token` bytes, from `at` on, put the token: its offset and its end, if room and limit allow
unfoldable pub spot_of : ℕ → ℕ → ℕ → ℕ → Option Spot
spot_of room at layout token =
    cond (leb (at + layout + token) (min room limit)) (Some (record { at = at + layout; end = at + layout + token })) None

-- the same, or the refusal
abbrev pub spot_or_full : ℕ → ℕ → ℕ → ℕ → Result Spot WriteError
spot_or_full room at layout token = ok_or (spot_of room at layout token) NoRoom

-- what stands before an item that stays in its line: a space, unless it joins what is before it
abbrev pub gap_bytes : Bool → List ℕ
gap_bytes joins = cond joins [] (32 ∷ [])

-- what ends the text: the line break l if wished
abbrev pub break_bytes : Bool → List ℕ → List ℕ
break_bytes wished l = cond wished l []

-- what a call on the record w hands back: a refusal leaves the record
abbrev pub wrote_of : {E : Type 0} → Serializer → Result Placed E → Wrote E
wrote_of w (Ok p) = record { serializer = p.serializer; answer = Ok p.offset }
wrote_of w (Err e) = record { serializer = w; answer = Err e }

-- what a function promises that makes a call
abbrev pub Makes : Call → Style → Serializer → List ℕ → Result Placed WriteError → List ℕ → Type 0
Makes c s w before r now = Does c s w before (wrote_of w r) now

-- ---- the record behind each step

-- behind the first item, a list or an atom, whose token has n bytes and ends at `position`
abbrev pub behind_first : Serializer → ℕ → ℕ → Bool → Serializer
behind_first w position n isList = record {
  position = position;
  lists = cond isList 1 0;
  broken = 0;
  line_len = cond isList n w.line_len;
  spaces = w.spaces;
  breaks = w.breaks;
  indents = w.indents;
  phase = cond isList Writing Finished;
  list_beginning = cond isList true w.list_beginning;
}

-- behind an item on a new line, which is `line` bytes long and ends at `position`
abbrev pub behind_new_line : Serializer → ℕ → ℕ → Bool → Serializer
behind_new_line w position line isList = record {
  position = position;
  lists = cond isList (w.lists + 1) w.lists;
  broken = w.lists;
  line_len = line;
  spaces = w.spaces;
  breaks = w.breaks + 1;
  indents = w.indents + w.lists;
  phase = Writing;
  list_beginning = isList;
}

-- behind an item in the same line, after which that is `line` bytes long
abbrev pub behind_in_line : Serializer → ℕ → ℕ → Bool → Serializer
behind_in_line w position line isList = record {
  position = position;
  lists = cond isList (w.lists + 1) w.lists;
  broken = w.broken;
  line_len = line;
  spaces = w.spaces + length (gap_bytes w.list_beginning);
  breaks = w.breaks;
  indents = w.indents;
  phase = Writing;
  list_beginning = isList;
}

-- behind a `)` on a new line, which is `line` bytes long
abbrev pub behind_end_on_new_line : Serializer → ℕ → ℕ → Serializer
behind_end_on_new_line w position line = record {
  position = position;
  lists = w.lists - 1;
  broken = w.lists - 1;
  line_len = line;
  spaces = w.spaces;
  breaks = w.breaks + 1;
  indents = w.indents + (w.lists - 1);
  phase = phase_after (w.lists - 1);
  list_beginning = false;
}

-- behind a `)` in the same line
abbrev pub behind_end_in_line : Serializer → ℕ → Serializer
behind_end_in_line w position = record {
  position = position;
  lists = w.lists - 1;
  broken = w.broken;
  line_len = w.line_len + 1;
  spaces = w.spaces;
  breaks = w.breaks;
  indents = w.indents;
  phase = phase_after (w.lists - 1);
  list_beginning = false;
}

-- behind the end of the text, with a line break or without
abbrev pub behind_finish : Serializer → ℕ → Bool → Serializer
behind_finish w position wished = record {
  position = position;
  lists = w.lists;
  broken = w.broken;
  line_len = w.line_len;
  spaces = w.spaces;
  breaks = cond wished (w.breaks + 1) w.breaks;
  indents = w.indents;
  phase = Done;
  list_beginning = w.list_beginning;
}

-- ---- what an item adds

-- the first item, by its token and whether it begins a list
unfoldable pub first_item : Serializer → List ℕ → Bool → Piece
first_item w token isList = record { layout = []; token = token; after = behind_first w (w.position + length token) (length token) isList }

-- an item in the same line, behind a space unless it begins its list
unfoldable pub in_line : Serializer → List ℕ → Bool → Piece
in_line w token isList =
    let gap = gap_bytes w.list_beginning in
    record {
      layout = gap;
      token = token;
      after = behind_in_line w (w.position + length gap + length token) (w.line_len + length gap + length token) isList;
    }

-- an item, by its token and whether it begins a list; t is the threshold
unfoldable pub item_in : Phase → Style → ℕ → Serializer → List ℕ → Bool → ℕ → Written
item_in Beginning s room w token isList t = place room w (first_item w token isList)
item_in Writing s room w token isList t = place room w (inner s w token isList t)
item_in Finished s room w token isList t = refuse 19 w
item_in Done s room w token isList t = refuse 19 w

abbrev pub PutsItem : Style → Serializer → List ℕ → Bool → ℕ → List ℕ → Result Placed WriteError → List ℕ → Type 0
PutsItem s w token isList t before r now = DoesAs (item_in w.phase s (length before) w token isList t) w before (wrote_of w r) now

-- bounds of a sound record, for the sums of the code
pub record Small (w : Serializer) : Type 0 where
  pub place : w.position ≤ limit
  pub line : w.line_len ≤ limit
  pub depth : w.lists ≤ limit
  pub gaps : w.spaces ≤ limit
  pub lines : w.breaks ≤ limit + 1
  pub steps : w.indents ≤ limit * (limit + 1)
