-- What demand 3 claims of a writing (document 01, "serializer.rs: the writer").
-- Assumes nothing.
use Rattle.std.specs.Prelude.{ℕ, ◌+◌, ◌*◌, ◌≡◌, List, length, take}
use Rattle.sise_parser.specs.Reader.{fresh_reader, answers_from}
use Rattle.sise_serializer.specs.Serializer.{Style}
use Rattle.sise_serializer.specs.declared.serializer.Serializer.{Serializer}
use Rattle.sise_serializer.specs.Calls.{Call, Item, Placed, writing}
use Rattle.sise_layout.specs.Texts.{text_of, atom_bytes, lists}
use Rattle.sise_layout.specs.Reading.{Gives, items_read}
use Rattle.sise_layout.specs.Nodes.{Node}

-- "atom bytes + 2 × lists + spaces + breaks × line_break length + indents × indentation length, by the counts each writer carried": those of the record w
abbrev pub length_by : Style → Serializer → List Item → ℕ
length_by s w items =
    atom_bytes items + 2 * lists items + w.spaces + w.breaks * length s.line_break + w.indents * length s.indentation

-- what needs nothing of the style: "the items spell exactly one node", and the text's length
pub record Spells (s : Style) (text : List ℕ) (w : Serializer) (items : List Item) : Type 0 where
  pub node : Node items
  pub size : length text ≡ length_by s w items

-- this text has exactly these items, each at the offset that its writer answered, whatever the layout; w is the record that the accepted finish returned
pub record HasItems (s : Style) (text : List ℕ) (w : Serializer) (written : List Placed) (items : List Item) : Type 0 where
  -- any number of next_item calls, and then finish: answers, places, bytes, 9, 10 and the accepted end
  pub gives : Gives text written
  -- what k calls read, places aside, are the first k items
  pub reads : (k : ℕ) → items_read text (answers_from text fresh_reader k) ≡ take k items
  pub spells : Spells s text w items

-- these calls wrote exactly these items
abbrev pub Holds : Style → List ℕ → List Call → List Item → Type 0
Holds s buffer cs items =
    let r = writing s buffer cs in
    HasItems s (text_of r) r.last r.items items
