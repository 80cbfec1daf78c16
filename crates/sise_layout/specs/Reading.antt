-- Reading a text by whole lists of calls, and what it is that it gives certain items (document 01, "Reading a text is any number of `next_item`
-- calls ...").
-- Assumes nothing.
use Rattle.std.specs.Prelude.{ℕ, ◌-◌, ◌≤◌, ◌<◌, ◌≡◌, List, [], ◌∷◌, ◌++◌, map, length, take, drop, replicate}
use Rattle.sise_parser.specs.Refusals.{refusal}
use Rattle.sise_parser.specs.Reader as reader
use Rattle.sise_parser.specs.Reader.{fresh_reader, answers_from, finish_reading, refused_with, ended, not_ended, after_calls}
use Rattle.sise_parser.specs.declared.reader.Reader.{Reader}
use Rattle.sise_parser.specs.declared.reader.ParsedItem.TheVariants.{Atom, ListStart, ListEnd}
use Rattle.sise_serializer.specs.Calls.{Item, atom, list_start, list_end, Placed}

-- the answer that an item is: "the kind, the place that the writer answered, for an atom its length"
unfoldable pub as_read : Placed → reader.Answer
as_read p =
    elim p.item [
      | atom a ↦ reader.Answer.item (Atom p.offset (length a))
      | list_start ↦ reader.Answer.item (ListStart p.offset)
      | list_end ↦ reader.Answer.item (ListEnd p.offset)
    ]

-- "and its bytes stand there"
unfoldable pub Stands : List ℕ → Placed → Type 0
Stands text p =
    elim p.item [
      | atom a ↦ take (length a) (drop p.offset text) ≡ a
      | list_start ↦ Unit {0}
      | list_end ↦ Unit {0}
    ]

pub data All {A : Type 0} (P : A → Type 0) : List A → Type 0 where
  none : All P []
  more : {a : A} {l : List A} → P a → All P l → All P (a ∷ l)

-- "With m items, the first m calls give them in order ... Each further call is 9. `finish` is accepted after m calls or more, and is 10 after fewer"
pub record Gives (text : List ℕ) (items : List Placed) : Type 0 where
  pub answers : (k : ℕ) → answers_from text fresh_reader k ≡ take k (map as_read items) ++ replicate (k - length items) (refused_with 9)
  pub bytes : All (Stands text) items
  pub early : (k : ℕ) → k < length items → finish_reading text (after_calls text k) ≡ not_ended (refusal 10 0 0)
  pub finished : (k : ℕ) → length items ≤ k → finish_reading text (after_calls text k) ≡ ended

-- what a program got that read the text by calls of next_item made one by one, with the answers l, and what finish answers to the record v that they left
pub record Got (text : List ℕ) (items : List Placed) (l : List reader.Answer) (v : Reader) : Type 0 where
  pub answers : l ≡ take (length l) (map as_read items) ++ replicate (length l - length items) (refused_with 9)
  pub early : length l < length items → finish_reading text v ≡ not_ended (refusal 10 0 0)
  pub finished : length items ≤ length l → finish_reading text v ≡ ended

-- the item that an answer is, an atom with the bytes that stand in its place; a refusal is none
unfoldable pub item_read : List ℕ → reader.Answer → List Item
item_read text (reader.Answer.item (Atom p n)) = atom (take n (drop p text)) ∷ []
item_read text (reader.Answer.item (ListStart p)) = list_start ∷ []
item_read text (reader.Answer.item (ListEnd p)) = list_end ∷ []
item_read text (reader.Answer.refused e) = []

unfoldable pub items_read : List ℕ → List reader.Answer → List Item
items_read text [] = []
items_read text (a ∷ l) = item_read text a ++ items_read text l
