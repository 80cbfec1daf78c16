-- The items of a whole text as words (document 01, "parser.rs: the reader" and "Refusals").
-- Assumes nothing.
use Rattle.std.specs.Prelude.{ℕ, zero, suc, ◌/◌, cond, List, [], ◌∷◌, ◌++◌, eqb, leb, length}
use Rattle.sise_parser.specs.Refusals.{Refusal, refusal}
use Rattle.sise_parser.specs.Reader as reader
use Rattle.sise_parser.specs.Reader.{fresh_reader, next_item, Ending, ended, not_ended, finish_reading, part_of}
use Rattle.sise_parser.specs.declared.reader.Reader.{Reader}
use Rattle.sise_parser.specs.declared.reader.ParsedItem.{ParsedItem}
use Rattle.sise_parser.specs.declared.reader.ParsedItem.TheVariants.{Atom, ListStart, ListEnd}
use Rattle.sise_serializer.specs.Bytes.{pasted}
use Rattle.sise_serializer.specs.Calls.{Call, put_atom_call, begin_list_call, end_list_call}
use Rattle.sise_tree.specs.Answers.{Answer, answered, refused, refused_with}

-- the items of at most k calls of next_item, up to the first refusal
unfoldable pub items_from : ℕ → List ℕ → Reader → List ParsedItem
items_from zero text r = []
items_from (suc k) text r =
    elim (next_item text r).answer [
      | reader.Answer.item i ↦ i ∷ items_from k text (next_item text r).reader
      | reader.Answer.refused e ↦ []
    ]

-- what that refusal says: 9 that the items are all read, and then finish looks at the rest of the text
abbrev pub ending_by : List ℕ → Reader → Refusal → Ending
ending_by text r e = cond (eqb e.number 9) (finish_reading text r) (not_ended e)

unfoldable pub ending_from : ℕ → List ℕ → Reader → Ending
ending_from zero text r = not_ended (refusal 11 0 0)
ending_from (suc k) text r =
    elim (next_item text r).answer [
      | reader.Answer.item i ↦ ending_from k text (next_item text r).reader
      | reader.Answer.refused e ↦ ending_by text r e
    ]

-- "A reader over n bytes gives at most n items", so one call more is enough
unfoldable pub items_of : List ℕ → List ParsedItem
items_of text = items_from (suc (length text)) text fresh_reader

unfoldable pub ending_of : List ℕ → Ending
ending_of text = ending_from (suc (length text)) text fresh_reader

-- an item's four words: kind, place, for an atom its length, and 0, in the place of a threshold
abbrev pub item_words : ParsedItem → List ℕ
item_words (Atom p n) = 0 ∷ p ∷ n ∷ 0 ∷ []
item_words (ListStart p) = 1 ∷ p ∷ 0 ∷ 0 ∷ []
item_words (ListEnd p) = 2 ∷ p ∷ 0 ∷ 0 ∷ []

unfoldable pub all_words : List ParsedItem → List ℕ
all_words [] = []
all_words (i ∷ l) = item_words i ++ all_words l

-- the writer's call that writes an item of the text again
abbrev pub item_call : List ℕ → ParsedItem → Call
item_call text (Atom p n) = put_atom_call (part_of text p n) 0
item_call text (ListStart p) = begin_list_call 0
item_call text (ListEnd p) = end_list_call

-- what is left: the answer, and the lent words
pub record ReadsItems : Type 0 where
  pub answer : Answer
  pub words : List ℕ

abbrev pub reads : Answer → List ℕ → ReadsItems
reads a words = record { answer = a; words = words }

-- 14, as of a table: more items than the words' length / 4, rounded down
unfoldable pub items_in : List ℕ → List ParsedItem → ReadsItems
items_in words l = cond (leb (length l) (length words / 4)) (reads (answered (length l)) (pasted words 0 (all_words l))) (reads (refused_with 14) words)

-- the first text refusal, then 14
abbrev pub read_items_by : List ℕ → List ParsedItem → Ending → ReadsItems
read_items_by words l ended = items_in words l
read_items_by words l (not_ended e) = reads (refused e) words

unfoldable pub read_items : List ℕ → List ℕ → ReadsItems
read_items text words = read_items_by words (items_of text) (ending_of text)
