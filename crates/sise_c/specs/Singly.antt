-- The reader's and the writer's calls one by one, over the words of a record (document 01, "Refusals": "Reader: 11, then 9 or 10, then the text", and so on).
-- Assumes nothing.
use Rattle.std.specs.Prelude.{ℕ, ◌≡◌, cond, List, [], ◌∷◌, ltb, length, take, Option, None, Some, Result}
use Rattle.sise_parser.specs.Reader as reader
use Rattle.sise_parser.specs.Reader.{next_item, Ending, ended, not_ended, finish_reading}
use Rattle.sise_parser.specs.declared.reader.Reader.{Reader}
use Rattle.sise_serializer.specs.Bytes.{pasted}
use Rattle.sise_serializer.specs.Calls.{Call, step}
use Rattle.sise_serializer.specs.Serializer as serializer
use Rattle.sise_serializer.specs.Serializer.{Style, Written}
use Rattle.sise_serializer.specs.declared.serializer.Serializer.{Serializer}
use Rattle.sise_serializer.specs.declared.serializer.WriteError.{WriteError}
use Rattle.sise_tree.specs.Answers.{Answer, answered, refused, refused_with}
use Rattle.sise_tree.specs.ParseTree.{longest, Parses, parse_tree}
use Rattle.sise_tree_writer.specs.Answers.{put_as}
use Rattle.sise_tree_writer.specs.SerializeTree.{Writes, serialize_tree}
use Rattle.sise_tree_writer.specs.declared.serialize.WriteTreeError.{WriteTreeError}
use Rattle.sise_c.specs.Items.{item_words}
use Rattle.sise_c.specs.Records.{reader_of, reader_words, serializer_of, serializer_words}

-- ---- next_item

-- a refusal's number, and 0 of an item
abbrev pub next_number : reader.Answer → ℕ
next_number (reader.Answer.item i) = 0
next_number (reader.Answer.refused e) = e.number

-- an item's kind, place and length, as sise_read_items has them; or 0, the refusal's place and its code point
abbrev pub next_values : reader.Answer → List ℕ
next_values (reader.Answer.item i) = take 3 (item_words i)
next_values (reader.Answer.refused e) = 0 ∷ e.place ∷ e.code ∷ []

-- what is left: the answer, and the record's words
pub record Stands : Type 0 where
  pub answer : reader.Answer
  pub words : List ℕ

abbrev pub stands : reader.Next → Stands
stands n = record { answer = n.answer; words = reader_words n.reader }

-- words that mean no record are unsound, and stay as they are
unfoldable pub next_by : List ℕ → List ℕ → Option Reader → Stands
next_by text ws None = record { answer = reader.refused_with 11; words = ws }
next_by text ws (Some r) = stands (next_item text r)

unfoldable pub next_of : List ℕ → List ℕ → Stands
next_of text ws = next_by text ws (reader_of ws)

-- the result r and the item's words, which end as `now`, are those of the answer a
pub record ReportsNext (a : reader.Answer) (r : ℕ) (now : List ℕ) : Type 0 where
  pub result : r ≡ next_number a
  pub values : now ≡ next_values a

-- ---- the reader's finish

abbrev pub ending_answer : Ending → Answer
ending_answer ended = answered 0
ending_answer (not_ended e) = refused e

unfoldable pub finish_by : List ℕ → Option Reader → Answer
finish_by text None = refused_with 11
finish_by text (Some r) = ending_answer (finish_reading text r)

unfoldable pub finish_of : List ℕ → List ℕ → Answer
finish_of text ws = finish_by text (reader_of ws)

-- ---- the writer's calls

-- the offset, or a refusal, which has no place
abbrev pub put_answer : serializer.Answer → Answer
put_answer (serializer.Answer.accepted o) = answered o
put_answer (serializer.Answer.refused n) = refused_with n

-- what is left: the answer, the record's words and the buffer
pub record Leaves : Type 0 where
  pub answer : Answer
  pub words : List ℕ
  pub buffer : List ℕ

-- a call that began with the record w does as d says
abbrev pub leaves : List ℕ → Serializer → Written → Leaves
leaves buf w d = record { answer = put_answer d.answer; words = serializer_words d.serializer; buffer = pasted buf w.position d.bytes }

unfoldable pub call_by : Call → Style → List ℕ → List ℕ → Option Serializer → Leaves
call_by c s ws buf None = record { answer = refused_with 11; words = ws; buffer = buf }
call_by c s ws buf (Some w) = leaves buf w (step s (length buf) w c)

unfoldable pub call_on : Call → Style → List ℕ → List ℕ → Leaves
call_on c s ws buf = call_by c s ws buf (serializer_of ws)

-- a call that leaves d: its result, and how the record's words and the buffer end
pub record Makes (d : Leaves) (r : Result ℕ WriteError) (ws buf : List ℕ) : Type 0 where
  pub answer : put_answer (serializer.answer_as r) ≡ d.answer
  pub words : ws ≡ d.words
  pub bytes : buf ≡ d.buffer

-- ---- the tree calls: "`parse_tree`: 13, 11, 9, .." and "`serialize_tree`: 13, 11, 15, .."

-- words that mean no record are unsound, and 13 comes before 11
unfoldable pub no_record : List ℕ → Answer
no_record text = refused_with (cond (ltb longest (length text)) 13 11)

-- what reading a node leaves: the answer, the record's words and the table's
pub record TreeStands : Type 0 where
  pub answer : Answer
  pub words : List ℕ
  pub table : List ℕ

abbrev pub tree_stands : Parses → TreeStands
tree_stands d = record { answer = d.answer; words = reader_words d.reader; table = d.words }

-- words that mean no record stay as they are, and so does the table
unfoldable pub next_tree_by : List ℕ → List ℕ → List ℕ → Option Reader → TreeStands
next_tree_by text ws table None = record { answer = no_record text; words = ws; table = table }
next_tree_by text ws table (Some r) = tree_stands (parse_tree text r table)

unfoldable pub next_tree_of : List ℕ → List ℕ → List ℕ → TreeStands
next_tree_of text ws table = next_tree_by text ws table (reader_of ws)

-- "a tree with its first item's" offset; a refusal leaves words and buffer
abbrev pub tree_leaves : Writes → Leaves
tree_leaves d = record { answer = d.answer; words = serializer_words d.serializer; buffer = d.buffer }

unfoldable pub put_tree_by : Style → List ℕ → List ℕ → List ℕ → List ℕ → ℕ → Option Serializer → Leaves
put_tree_by s ws buf text table t None = record { answer = no_record text; words = ws; buffer = buf }
put_tree_by s ws buf text table t (Some w) = tree_leaves (serialize_tree s buf w text table t)

unfoldable pub put_tree_of : Style → List ℕ → List ℕ → List ℕ → List ℕ → ℕ → Leaves
put_tree_of s ws buf text table t = put_tree_by s ws buf text table t (serializer_of ws)

-- a tree call that leaves d: its result, and how the record's words and the buffer end
pub record PutsTree (d : Leaves) (r : Result ℕ WriteTreeError) (ws buf : List ℕ) : Type 0 where
  pub answer : put_as r ≡ d.answer
  pub words : ws ≡ d.words
  pub bytes : buf ≡ d.buffer
