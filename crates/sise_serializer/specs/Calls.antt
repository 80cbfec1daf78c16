-- Whole lists of the writer's calls (document 01, "serializer.rs: the writer": "Demand 3 speaks of lists of the calls ...").
-- Assumes nothing.
use Rattle.std.specs.Prelude.{ℕ, ◌-◌, ◌^◌, Bool, true, false, List, [], ◌∷◌, ◌++◌, map, length}
use Rattle.sise_serializer.specs.Bytes.{pasted}
use Rattle.sise_serializer.specs.Serializer.{Style, Answer, accepted, refused, Written, DoesAs, put_atom, begin_list, end_list, finish_writing, fresh_serializer}
use Rattle.sise_serializer.specs.declared.serializer.Serializer.{Serializer}
use Rattle.sise_serializer.specs.declared.serializer.WriteError.{WriteError}
use Rattle.sise_serializer.specs.declared.serializer.Wrote.{Wrote}

-- "Atom, threshold and the wish for a final break are free at each call"
pub data Call : Type 0 where
  -- the atom's bytes, and the threshold
  put_atom_call : List ℕ → ℕ → Call
  begin_list_call : ℕ → Call
  end_list_call : Call
  -- whether a final break is wished
  finish_call : Bool → Call

-- a threshold "of 64 unsigned bits (largest: all ones)"
abbrev pub largest : ℕ
largest = 2 ^ 64 - 1

-- one call with a style and a buffer of room bytes
unfoldable pub step : Style → ℕ → Serializer → Call → Written
step s room w (put_atom_call a t) = put_atom s room w a t
step s room w (begin_list_call t) = begin_list s room w t
step s room w end_list_call = end_list s room w
step s room w (finish_call wished) = finish_writing s room w wished

-- what a call promises, that began with the style s, the record w and the buffer `before` and ended with the result r and the buffer `now`
abbrev pub Does : Call → Style → Serializer → List ℕ → Wrote WriteError → List ℕ → Type 0
Does c s w before r now = DoesAs (step s (length before) w c) w before r now

abbrev pub is_accepted : Answer → Bool
is_accepted (accepted o) = true
is_accepted (refused n) = false

-- an item: "the item atom with its bytes", "a list start", "a list end"
pub data Item : Type 0 where
  atom : List ℕ → Item
  list_start list_end : Item

-- an item and the offset that its writer answered
pub record Placed : Type 0 where
  pub item : Item
  pub offset : ℕ

abbrev pub placed : Item → ℕ → Placed
placed i o = record { item = i; offset = o }

abbrev pub items_of : List Placed → List Item
items_of = map (λ (p : Placed). p.item)

-- what an accepted call is; "`finish` and refused calls are no items"
unfoldable pub item_at : Call → ℕ → List Placed
item_at (put_atom_call a t) o = placed (atom a) o ∷ []
item_at (begin_list_call t) o = placed list_start o ∷ []
item_at end_list_call o = placed list_end o ∷ []
item_at (finish_call wished) o = []

abbrev pub item_of : Call → Answer → List Placed
item_of c (accepted o) = item_at c o
item_of c (refused n) = []

-- what a list of calls leaves: the record and the buffer, its answers, and its items
pub record Run : Type 0 where
  pub last : Serializer
  pub buffer : List ℕ
  pub answers : List Answer
  pub items : List Placed

-- "The first call gets" the record w, "each later one the record that the last returned or, refused, left. All get one style and one buffer"
unfoldable pub run : Style → List ℕ → Serializer → List Call → Run
run s buffer w [] = record { last = w; buffer = buffer; answers = []; items = [] }
run s buffer w (c ∷ cs) =
    let r = step s (length buffer) w c in
    let rest = run s (pasted buffer w.position r.bytes) r.serializer cs in
    record { last = rest.last; buffer = rest.buffer; answers = r.answer ∷ rest.answers; items = item_of c r.answer ++ rest.items }

-- a writing: "a fresh record", a buffer "with any bytes in it at first"
abbrev pub writing : Style → List ℕ → List Call → Run
writing s buffer cs = run s buffer fresh_serializer cs
