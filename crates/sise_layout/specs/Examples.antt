-- Document 01's worked writing with both thresholds, by computation: text, offsets and counts; so the premises of demand 3 are met. And texts with a broken
-- list in another.
-- Assumes nothing.
use Rattle.std.specs.Prelude.{ℕ, ◌≡◌, refl, true, false, List, [], ◌∷◌, map, replicate, Ok}
use Rattle.std.proofs.Common.{lit<}
use Rattle.sise_util.specs.Chars.{within, one_of, is_atom_chr, marks}
use Rattle.sise_util.specs.Classes.{class_of}
use Rattle.sise_util.specs.Atom.{is_atom, outside, inside, escaped}
use Rattle.sise_serializer.specs.Bytes.{pasted}
use Rattle.sise_serializer.specs.Examples.{house}
use Rattle.sise_serializer.specs.Serializer.{accepted, fresh_serializer, is_sound, place, first_atom, first_list, laid, inner_as, inner, phase_after, close_as, close, last, put_in, put_atom, begin_in, begin_list, end_in, end_list, finish_in, finish_writing}
use Rattle.sise_serializer.specs.declared.serializer.Phase.{Phase}
use Rattle.sise_serializer.specs.declared.serializer.Phase.TheVariants.{Done}
use Rattle.sise_serializer.specs.declared.serializer.Serializer.{Serializer}
use Rattle.sise_serializer.specs.Calls.{largest, Call, put_atom_call, begin_list_call, end_list_call, finish_call, Item, atom, list_start, list_end, Placed, items_of, step, item_at, Run, run, writing}
use Rattle.sise_layout.specs.Texts.{here, later, Finishes, text_of, Blank}
use Rattle.sise_layout.specs.Made as made
use Rattle.sise_layout.specs.Made.{none, MadeWriting}

-- "`(`, `z` at largest, `(` at 0, `1` at largest, `22` at 4, two `)`, finish with break", with t for 4; a refused call among them
unfoldable pub worked : ℕ → List Call
worked t =
    begin_list_call 0
    ∷ put_atom_call (122 ∷ []) largest
    ∷ begin_list_call 0
    ∷ put_atom_call (49 ∷ []) largest
    ∷ put_atom_call (50 ∷ 32 ∷ []) 0
    ∷ put_atom_call (50 ∷ 50 ∷ []) t
    ∷ end_list_call
    ∷ end_list_call
    ∷ finish_call true
    ∷ []

-- a buffer that was used before
unfoldable pub used : List ℕ
used = replicate 40 255

-- what 01 says of a writing; its three counts in order
pub record Shown : Type 0 where
  pub text : List ℕ
  pub items : List Item
  pub offsets : List ℕ
  pub counts : List ℕ
  pub phase : Phase

unfoldable pub shown : Run → Shown
shown r = record {
  text = text_of r;
  items = items_of r.items;
  offsets = map (λ (p : Placed). p.offset) r.items;
  counts = r.last.spaces ∷ r.last.breaks ∷ r.last.indents ∷ [];
  phase = r.last.phase;
}

unfoldable pub worked_items : List Item
worked_items = list_start ∷ atom (122 ∷ []) ∷ list_start ∷ atom (49 ∷ []) ∷ atom (50 ∷ 50 ∷ []) ∷ list_end ∷ list_end ∷ []

-- `(z⏎  (1⏎    22⏎  )⏎)⏎`: 21 bytes
pub at_4 : shown (writing house used (worked 4)) ≡ record {
  text = 40 ∷ 122 ∷ 10 ∷ 32 ∷ 32 ∷ 40 ∷ 49 ∷ 10 ∷ 32 ∷ 32 ∷ 32 ∷ 32 ∷ 50 ∷ 50 ∷ 10 ∷ 32 ∷ 32 ∷ 41 ∷ 10 ∷ 41 ∷ 10 ∷ [];
  items = worked_items;
  offsets = 0 ∷ 1 ∷ 5 ∷ 6 ∷ 12 ∷ 17 ∷ 19 ∷ [];
  counts = 0 ∷ 5 ∷ 4 ∷ [];
  phase = Done;
}
unfolding shown house worked worked_items used run step item_at pasted fresh_serializer is_sound place first_atom first_list laid inner_as inner phase_after close_as close last put_in put_atom begin_in begin_list end_in end_list finish_in finish_writing is_atom outside inside escaped class_of is_atom_chr marks one_of within
at_4 = refl

-- `(z⏎  (1 22)⏎)⏎`: 14 bytes
pub at_5 : shown (writing house used (worked 5)) ≡ record {
  text = 40 ∷ 122 ∷ 10 ∷ 32 ∷ 32 ∷ 40 ∷ 49 ∷ 32 ∷ 50 ∷ 50 ∷ 41 ∷ 10 ∷ 41 ∷ 10 ∷ [];
  items = worked_items;
  offsets = 0 ∷ 1 ∷ 5 ∷ 6 ∷ 8 ∷ 10 ∷ 12 ∷ [];
  counts = 1 ∷ 3 ∷ 1 ∷ [];
  phase = Done;
}
unfolding shown house worked worked_items used run step item_at pasted fresh_serializer is_sound place first_atom first_list laid inner_as inner phase_after close_as close last put_in put_atom begin_in begin_list end_in end_list finish_in finish_writing is_atom outside inside escaped class_of is_atom_chr marks one_of within
at_5 = refl

-- a list broken by an item, in a list that no item of its own breaks; then `b` at t and `c` at u, and `(d)`, which nothing breaks
child_then : ℕ → ℕ → List Call
child_then t u =
    begin_list_call 0
    ∷ begin_list_call largest
    ∷ put_atom_call (97 ∷ []) 0
    ∷ end_list_call
    ∷ put_atom_call (98 ∷ []) t
    ∷ put_atom_call (99 ∷ []) u
    ∷ begin_list_call largest
    ∷ put_atom_call (100 ∷ []) largest
    ∷ end_list_call
    ∷ end_list_call
    ∷ finish_call false
    ∷ []

-- `((⏎    a⏎  ) b c (d)⏎)`, `((⏎    a⏎  ) b⏎  c (d)⏎)` and `((⏎    a⏎  )⏎  b c (d)⏎)`. The child's `)` restarts the line length: it is 3 before `b`, and with
-- the space and `b` it is 5 before `c`. "A broken child makes its parent broken", so the last `)` is on a line of its own; "a closed list's flag is
-- cleared", so `(d)` is on one line
child_texts : List (List ℕ)
child_texts = map (λ (cs : List Call). text_of (writing house used cs)) (child_then 4 6 ∷ child_then 4 5 ∷ child_then 3 4 ∷ [])

child_texts_lem : child_texts
    ≡ (40 ∷ 40 ∷ 10 ∷ 32 ∷ 32 ∷ 32 ∷ 32 ∷ 97 ∷ 10 ∷ 32 ∷ 32 ∷ 41 ∷ 32 ∷ 98 ∷ 32 ∷ 99 ∷ 32 ∷ 40 ∷ 100 ∷ 41 ∷ 10 ∷ 41 ∷ [])
    ∷ (40 ∷ 40 ∷ 10 ∷ 32 ∷ 32 ∷ 32 ∷ 32 ∷ 97 ∷ 10 ∷ 32 ∷ 32 ∷ 41 ∷ 32 ∷ 98 ∷ 10 ∷ 32 ∷ 32 ∷ 99 ∷ 32 ∷ 40 ∷ 100 ∷ 41 ∷ 10 ∷ 41 ∷ [])
    ∷ (40 ∷ 40 ∷ 10 ∷ 32 ∷ 32 ∷ 32 ∷ 32 ∷ 97 ∷ 10 ∷ 32 ∷ 32 ∷ 41 ∷ 10 ∷ 32 ∷ 32 ∷ 98 ∷ 32 ∷ 99 ∷ 32 ∷ 40 ∷ 100 ∷ 41 ∷ 10 ∷ 41 ∷ [])
    ∷ []
unfolding child_texts child_then house used run step item_at pasted fresh_serializer is_sound place first_atom first_list laid inner_as inner phase_after close_as close last put_in put_atom begin_in begin_list end_in end_list finish_in finish_writing is_atom outside inside escaped class_of is_atom_chr marks one_of within
child_texts_lem = refl

pub house_blank : Blank house
unfolding house one_of
house_blank = record { not_empty = lit< tt; line_break = refl; indentation = refl }

pub at_4_finishes : Finishes house used (worked 4)
unfolding house worked used run step item_at pasted fresh_serializer is_sound place first_atom first_list laid inner_as inner phase_after close_as close last put_in put_atom begin_in begin_list end_in end_list finish_in finish_writing is_atom outside inside escaped class_of is_atom_chr marks one_of within
at_4_finishes = later (later (later (later (later (later (later (later here)))))))

pub at_5_finishes : Finishes house used (worked 5)
unfolding house worked used run step item_at pasted fresh_serializer is_sound place first_atom first_list laid inner_as inner phase_after close_as close last put_in put_atom begin_in begin_list end_in end_list finish_in finish_writing is_atom outside inside escaped class_of is_atom_chr marks one_of within
at_5_finishes = later (later (later (later (later (later (later (later here)))))))

-- the records of `a` put into a fresh writer, and of finish after it
alone_after : Serializer
alone_after = (first_atom fresh_serializer (97 ∷ [])).after

end_after : Serializer
end_after = (last house alone_after false).after

-- these two calls made one by one
one_by_one : MadeWriting house fresh_serializer (0 ∷ []) (put_atom_call (97 ∷ []) 0 ∷ finish_call false ∷ []) end_after (97 ∷ []) (accepted 0 ∷ accepted 1 ∷ [])
unfolding alone_after end_after house step pasted fresh_serializer is_sound place first_atom last put_in put_atom finish_in finish_writing is_atom outside inside escaped class_of is_atom_chr one_of within
one_by_one =
    made.later {r = record { serializer = alone_after; answer = Ok 0 }} (record { serializer = refl; answer = refl; buffer = refl })
    (made.here {r = record { serializer = end_after; answer = Ok 1 }} (record { serializer = refl; answer = refl; buffer = refl }) refl none)
