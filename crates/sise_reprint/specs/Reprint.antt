-- A reprint (document 02, 2.4: "the text's tree written in the house style at a given threshold"), made by the two calls that a program makes.
-- Assumes nothing.
use Rattle.std.specs.Prelude.{ℕ, ◌/◌, ◌≤◌, ◌≡◌, true, List, length, take}
use Rattle.sise_parser.specs.Refusals.{Refusal}
use Rattle.sise_serializer.specs.Serializer.{fresh_serializer}
use Rattle.sise_tree.specs.Tree.{size}
use Rattle.sise_tree.specs.Answers.{Answer, answered, refused}
use Rattle.sise_tree.specs.ParseTree.{longest}
use Rattle.sise_tree.specs.ParseText.{parse_text, DoesParseText}
use Rattle.std.specs.Prelude.{Result}
use Rattle.sise_tree.specs.declared.parse.TreeError.{TreeError}
use Rattle.sise_tree_writer.specs.SerializeTree.{fits, Writes, DoesWrite}
use Rattle.sise_tree_writer.specs.Writing.{text_calls}
use Rattle.sise_tree_writer.specs.House.{house_style, house_at}
use Rattle.sise_tree_writer.specs.Alike.{Tree, ReadsAs}
use Rattle.sise_tree_writer.specs.Answers.{TreeWrote}

-- what it comes to: the number of nodes that parse_text answered and the bytes that the house call wrote, or the refusal of the first call that was refused
pub data Reprint : Type 0 where
  reprinted : ℕ → List ℕ → Reprint
  refused_by : Refusal → Reprint

-- after the house call, which left d: "the buffer's part up to the position"
abbrev pub after_house : ℕ → Writes → Answer → Reprint
after_house k d (answered o) = reprinted k (take d.serializer.position d.buffer)
after_house k d (refused e) = refused_by e

-- after parse_text, which left the words: the house call with them, if there was no refusal
abbrev pub after_parse : ℕ → List ℕ → List ℕ → List ℕ → Answer → Reprint
after_parse t text buffer words (answered k) = let d = house_at t buffer text words in after_house k d d.answer
after_parse t text buffer words (refused e) = refused_by e

-- the reprint of a text at the threshold t: parse_text into a table that has these words, then the house call into a buffer that has these bytes
unfoldable pub reprint : ℕ → List ℕ → List ℕ → List ℕ → Reprint
reprint t text words buffer = let p = parse_text text words in after_parse t text buffer p.words p.answer

-- "every text that is read to its end as one node ... and whose tree and reprint fit"
pub record Fits (t : ℕ) (text words buffer : List ℕ) {tree : Tree} (r : ReadsAs text tree) : Type 0 where
  -- 13's limit
  pub short : length text ≤ longest
  -- 14: "more nodes than the table's length / 4, rounded down"
  pub table : size r.node ≤ length words / 4
  -- 22: none of the tree's calls in house style is refused, nor the finish behind them
  pub room : fits house_style (length buffer) fresh_serializer (text_calls text t true r.node) ≡ true

-- a program made the two calls, the second with the words that the first left: parse_text returned `parsed` and left `table`, the house call returned
-- `wrote` and left `now`. Each did as its contract says
pub record Calls (t : ℕ) (text words buffer : List ℕ) (parsed : Result ℕ TreeError) (table : List ℕ) (wrote : TreeWrote) (now : List ℕ) : Type 0 where
  pub parse : DoesParseText (parse_text text words) parsed table
  pub write : DoesWrite (house_at t buffer text table) wrote now

-- what it has then: the bytes up to the position of the record that was returned
abbrev pub text_by : TreeWrote → List ℕ → List ℕ
text_by wrote now = take wrote.serializer.position now
