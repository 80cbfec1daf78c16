-- What parse_tree answers and writes (document 01, "Trees" and "Refusals").
-- Assumes nothing.
use Rattle.std.specs.Prelude.{ℕ, zero, suc, ◌*◌, ◌/◌, ◌≡◌, cond, List, ◌++◌, leb, ltb, length, drop}
use Rattle.sise_parser.specs.Refusals.{Refusal, refusal}
use Rattle.sise_parser.specs.Reader as reader
use Rattle.sise_parser.specs.Reader.{next_item}
use Rattle.sise_parser.specs.declared.reader.Reader.{Reader}
use Rattle.sise_parser.specs.declared.reader.ParsedItem.{ParsedItem}
use Rattle.sise_parser.specs.declared.reader.ParsedItem.TheVariants.{Atom, ListStart, ListEnd}
use Rattle.sise_tree.specs.Tree.{Node, atom, list, Nodes, empty, ◌then◌, size, kind_at, table}
use Rattle.sise_tree.specs.Answers.{Answer, answered, refused, refused_with, parsed_as}
use Rattle.sise_tree.specs.declared.parse.TreeRead.{TreeRead}

-- 13's limit: "text over 16,777,216 bytes"
abbrev pub longest : ℕ
longest = 16777216

unfoldable pub snoc : Nodes → Node → Nodes
snoc empty n = n then empty
snoc (m then c) n = m then snoc c n

infixl 20 ◌▹◌
-- the lists that are open, the innermost last, each with the children that it has so far
pub data Frames : Type 0 where
  top : Frames
  ◌▹◌ : Frames → Nodes → Frames

-- reading a node goes on with the open lists, ends with the node, or meets a `)` where a node is due
pub data Stage : Type 0 where
  inside : Frames → Stage
  whole : Node → Stage
  closes : ℕ → Stage

-- a node is read where these lists are open
unfoldable pub attach : Frames → Node → Stage
attach top n = whole n
attach (f ▹ c) n = inside (f ▹ snoc c n)

-- a list closes, by the `)` at the place p
unfoldable pub close : Frames → ℕ → Stage
close top p = closes p
close (f ▹ c) p = attach f (list c)

-- what an item of a text makes of it
unfoldable pub turn : List ℕ → Frames → ParsedItem → Stage
turn text f (Atom p n) = attach f (atom (kind_at text p n) p n)
turn text f (ListStart p) = inside (f ▹ empty)
turn text f (ListEnd p) = close f p

-- what reading a node gives: the node, or the first refusal, and the record that the last call left
pub data ReadNode : Type 0 where
  got : Node → Reader → ReadNode
  stopped : Refusal → Reader → ReadNode

-- what a stage, which a call that left the record r came to, makes of the reading; 12: "a list closes where a node is due; place"
unfoldable pub read_stage : (Frames → ReadNode) → Reader → Stage → ReadNode
read_stage on r (inside f) = on f
read_stage on r (whole n) = got n r
read_stage on r (closes p) = stopped (refusal 12 p 0) r

-- what the call's answer does; "a text refusal leaves the reader as the inner next_item did"
unfoldable pub read_answer : List ℕ → (Frames → ReadNode) → Reader → Frames → reader.Answer → ReadNode
read_answer text on r f (reader.Answer.item i) = read_stage on r (turn text f i)
read_answer text on r f (reader.Answer.refused e) = stopped e r

-- item after item, with these lists open; the first number bounds the items
unfoldable pub read_from : ℕ → List ℕ → Reader → Frames → ReadNode
read_from zero text r f = stopped (refusal 11 0 0) r
read_from (suc k) text r f = let x = next_item text r in read_answer text (read_from k text x.reader) x.reader f x.answer

-- "A reader over n bytes gives at most n items", so one call more is enough
unfoldable pub read_node : List ℕ → Reader → ReadNode
read_node text r = read_from (suc (length text)) text r top

-- what parse_tree leaves: the reader's record, its answer, and the table's words
pub record Parses : Type 0 where
  pub reader : Reader
  pub answer : Answer
  pub words : List ℕ

-- "fills its words and no others"
unfoldable pub filled_with : Node → List ℕ → List ℕ
filled_with n words = table n ++ drop (4 * size n) words

-- 14: "more nodes than the table's length / 4, rounded down", which leaves the reader "as at entry"
unfoldable pub parsed : Reader → List ℕ → ReadNode → Parses
parsed r words (stopped e q) = record { reader = q; answer = refused e; words = words }
parsed r words (got n q) =
    cond (leb (size n) (length words / 4))
    (record { reader = q; answer = answered (size n); words = filled_with n words })
    (record { reader = r; answer = refused_with 14; words = words })

-- "`parse_tree`: 13, 11, 9, the first text refusal or 12, then 14"
unfoldable pub parse_tree : List ℕ → Reader → List ℕ → Parses
parse_tree text r words =
    cond (ltb longest (length text))
    (record { reader = r; answer = refused_with 13; words = words })
    (parsed r words (read_node text r))

-- what a call promises, that ended with the result r and the words `now`: it does as d says
pub record DoesParse (d : Parses) (r : TreeRead) (now : List ℕ) : Type 0 where
  pub reader : r.reader ≡ d.reader
  pub answer : parsed_as r.answer ≡ d.answer
  pub words : now ≡ d.words
