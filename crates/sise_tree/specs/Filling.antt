-- What the private functions of parse_tree do: the node that is due is counted, and then filled into the table, item after item.
-- Assumes nothing.
use Rattle.std.specs.Prelude.{ℕ, suc, ◌+◌, ◌*◌, ◌/◌, ◌^◌, ◌≤◌, ◌<◌, ◌≡◌, true, Option, Some, None, Result, List, [], ◌∷◌, ◌++◌, length, take, drop}
use Rattle.sise_parser.specs.Refusals.{Refusal}
use Rattle.sise_parser.specs.Reader as reader
use Rattle.sise_parser.specs.declared.reader.Reader.{Reader}
use Rattle.sise_parser.specs.declared.reader.ParsedItem.{ParsedItem}
use Rattle.sise_parser.specs.declared.reader.ParsedItem.TheVariants.{Atom, ListStart, ListEnd}
use Rattle.sise_tree.specs.Tree.{Node, list, Nodes, size, sizes, children, kind_at, table_at, table, tables}
use Rattle.sise_tree.specs.Answers.{Answer, answered, refused, parsed_as}
use Rattle.sise_tree.specs.ParseTree.{longest, Frames, top, ◌▹◌, Stage, inside, whole, closes, attach, turn, ReadNode, got, stopped, read_from, read_node, filled_with}
use Rattle.sise_tree.specs.declared.parse.TreeError.{TreeError}
use Rattle.sise_tree.specs.declared.parse.Mark.{Mark}
use Rattle.sise_tree.specs.declared.parse.Due.{Due}

-- ---- counting

-- what it answers of a reading: the size in the node's place
abbrev pub counted : ReadNode → Answer
counted (got n q) = answered (size n)
counted (stopped e q) = refused e

-- the record that it leaves
abbrev pub reader_of : ReadNode → Reader
reader_of (got n q) = q
reader_of (stopped e q) = q

-- a reading that left the record q and answered r does as d says
pub record DoesCount (d : ReadNode) (q : Reader) (r : Result ℕ TreeError) : Type 0 where
  pub reader : q ≡ reader_of d
  pub answer : parsed_as r ≡ counted d

-- the lists that are open, and the nodes so far
unfoldable pub opened : Frames → ℕ
opened top = 0
opened (f ▹ c) = opened f + 1

unfoldable pub filled : Frames → ℕ
filled top = 0
filled (f ▹ c) = filled f + (1 + sizes c)

-- reading on from r with these lists open is reading the node that was due at r₀; inside a list the record is a sound one
pub record Stands (text : List ℕ) (r₀ : Reader) (f : Frames) (r : Reader) (depth : ℕ) : Type 0 where
  pub reads : read_from (suc (length text)) text r f ≡ read_node text r₀
  pub deep : depth ≡ opened f
  pub listed : r.lists ≡ r₀.lists + depth
  pub sound : (depth ≡ 0 → ⊥) → reader.is_sound (length text) r ≡ true

-- and there are so many nodes
pub record Counts (text : List ℕ) (r₀ : Reader) (f : Frames) (r : Reader) (depth nodes : ℕ) : Type 0 where
  pub stands : Stands text r₀ f r depth
  pub many : nodes ≡ filled f
  pub early : nodes ≤ r.position

-- ---- filling

-- the innermost open list's index; where none is open, that of the root, which is its own parent
unfoldable pub innermost : Frames → ℕ
innermost top = 0
innermost (f ▹ c) = filled f

-- how far behind it the next node stands
unfoldable pub distance : Frames → ℕ
distance top = 0
distance (f ▹ c) = 1 + sizes c

-- the words so far: an open list has no span yet
unfoldable pub render : Frames → List ℕ
render top = []
render (f ▹ c) = render f ++ (0 ∷ children c ∷ distance f ∷ 0 ∷ tables 1 c)

-- the same of a stage; where a `)` was met in a node's place nothing is filled
unfoldable pub filled_in : Stage → ℕ
filled_in (inside f) = filled f
filled_in (whole n) = size n
filled_in (closes p) = 0

unfoldable pub innermost_in : Stage → ℕ
innermost_in (inside f) = innermost f
innermost_in (whole n) = 0
innermost_in (closes p) = 0

unfoldable pub render_in : Stage → List ℕ
render_in (inside f) = render f
render_in (whole n) = table n
render_in (closes p) = []

-- node i's words become these
unfoldable pub put_at : List ℕ → ℕ → ℕ → ℕ → ℕ → ℕ → List ℕ
put_at words i k a b s = take (4 * i) words ++ (k ∷ a ∷ b ∷ s ∷ drop (4 * (i + 1)) words)

-- the node `child` was put after the words of open lists, of which the innermost is to count it
pub record Attachable (words : List ℕ) (parent child : ℕ) (f : Frames) (n : Node) (rest : List ℕ) : Type 0 where
  pub shown : words ≡ render f ++ (table_at (distance f) n ++ rest)
  pub parents : parent ≡ innermost f
  pub nexts : child ≡ filled f
  pub small : filled f + 1 < 2 ^ 32

abbrev pub CanAttach : List ℕ → ℕ → ℕ → Type 0
CanAttach words parent child = (f : Frames) × (n : Node) × (rest : List ℕ) × Attachable words parent child f n rest

abbrev pub Attaches : List ℕ → ℕ → ℕ → List ℕ → Type 0
Attaches words parent child now =
    (f : Frames) (n : Node) (rest : List ℕ) → Attachable words parent child f n rest → now ≡ render_in (attach f n) ++ rest

-- the innermost list is to be closed
pub record Closable (words : List ℕ) (next parent : ℕ) (f : Frames) (c : Nodes) (rest : List ℕ) : Type 0 where
  pub shown : words ≡ render (f ▹ c) ++ rest
  pub nexts : next ≡ filled (f ▹ c)
  pub parents : parent ≡ innermost (f ▹ c)
  pub small : next < 2 ^ 32

abbrev pub CanClose : List ℕ → ℕ → ℕ → Type 0
CanClose words next parent = (f : Frames) × (c : Nodes) × (rest : List ℕ) × Closable words next parent f c rest

abbrev pub Closes : List ℕ → ℕ → ℕ → ℕ → List ℕ → Type 0
Closes words next parent r now =
    (f : Frames) (c : Nodes) (rest : List ℕ) → Closable words next parent f c rest → (r ≡ innermost f) × (now ≡ render_in (attach f (list c)) ++ rest)

-- the table, which had the words w₀, and the filling's mark stand for a stage
pub record Shows (w₀ : List ℕ) (s : Stage) (words : List ℕ) (m : Mark) : Type 0 where
  pub shown : words ≡ render_in s ++ drop (4 * filled_in s) w₀
  pub nexts : m.next ≡ filled_in s
  pub parents : m.parent ≡ innermost_in s

-- an atom lies in the text
abbrev pub LiesIn : List ℕ → ParsedItem → Type 0
LiesIn text (Atom p n) = p + n ≤ length text
LiesIn text (ListStart p) = Unit {0}
LiesIn text (ListEnd p) = Unit {0}

-- an item is one that may come, and what it leads to has room in n words of 32 bits
pub record Fits (text : List ℕ) (n : ℕ) (f : Frames) (i : ParsedItem) : Type 0 where
  pub due : (p : ℕ) → turn text f i ≡ closes p → ⊥
  pub room : filled_in (turn text f i) ≤ n / 4
  pub small : filled_in (turn text f i) + 1 < 2 ^ 32
  pub lies : LiesIn text i
  pub short : length text < 2 ^ 32

abbrev pub CanTurn : List ℕ → List ℕ → Mark → ParsedItem → Type 0
CanTurn text words m i = (w₀ : List ℕ) × (f : Frames) × Shows w₀ (inside f) words m × Fits text (length words) f i

abbrev pub Turns : List ℕ → List ℕ → Mark → ParsedItem → Mark → List ℕ → Type 0
Turns text words m i r now = (w₀ : List ℕ) (f : Frames) → Shows w₀ (inside f) words m → Fits text (length words) f i → Shows w₀ (turn text f i) now r

-- a node's first word, if the item is an atom
abbrev pub IsKind : List ℕ → ParsedItem → ℕ → Type 0
IsKind text (Atom p n) k = k ≡ kind_at text p n
IsKind text (ListStart p) k = Unit {0}
IsKind text (ListEnd p) k = Unit {0}

-- what a call of next_item with the record r gives, and an atom's kind; nothing, where it refuses
abbrev pub GivesDue : List ℕ → Reader → Option Due → Type 0
GivesDue text r None = (q : Reader) × (x : Refusal) × (reader.next_item text r ≡ reader.next q (reader.Answer.refused x))
GivesDue text r (Some d) = (reader.next_item text r ≡ reader.next d.reader (reader.Answer.item d.item)) × IsKind text d.item d.kind

-- an item's turn over a text where an atom's kind has that number
abbrev pub CanWrite : List ℕ → Mark → ParsedItem → ℕ → Type 0
CanWrite words m i k = (text : List ℕ) × IsKind text i k × CanTurn text words m i

abbrev pub Writes : List ℕ → Mark → ParsedItem → ℕ → Mark → List ℕ → Type 0
Writes words m i k r now = (text : List ℕ) → IsKind text i k → Turns text words m i r now

-- an atom's turn over a text where its kind has that number
abbrev pub CanPut : List ℕ → Mark → ℕ → ℕ → ℕ → Type 0
CanPut words m k p n = (text : List ℕ) × (k ≡ kind_at text p n) × CanTurn text words m (Atom p n)

abbrev pub Puts : List ℕ → Mark → ℕ → ℕ → ℕ → Mark → List ℕ → Type 0
Puts words m k p n r now = (text : List ℕ) → k ≡ kind_at text p n → Turns text words m (Atom p n) r now

-- a list's start, wherever it stands
abbrev pub CanStart : List ℕ → Mark → Type 0
CanStart words m = (text : List ℕ) × (p : ℕ) × CanTurn text words m (ListStart p)

abbrev pub Starts : List ℕ → Mark → Mark → List ℕ → Type 0
Starts words m r now = (text : List ℕ) (p : ℕ) → Turns text words m (ListStart p) r now

-- the node that is due is known to be one, and to have room
pub record Fillable (text : List ℕ) (r : Reader) (words : List ℕ) (n : Node) (q : Reader) : Type 0 where
  pub short : length text ≤ longest
  pub reads : read_node text r ≡ got n q
  pub room : size n ≤ length words / 4

abbrev pub CanFill : List ℕ → Reader → List ℕ → Type 0
CanFill text r words = (n : Node) × (q : Reader) × Fillable text r words n q

abbrev pub DoesFill : List ℕ → Reader → List ℕ → List ℕ → Type 0
DoesFill text r words now = (n : Node) (q : Reader) → read_node text r ≡ got n q → now ≡ filled_with n words

-- the filling of a node stands inside it: the table, which had the words w₀, stands for the open lists
pub record Fills (text w₀ : List ℕ) (r₀ : Reader) (f : Frames) (r : Reader) (depth : ℕ) (words : List ℕ) (m : Mark) : Type 0 where
  pub stands : Stands text r₀ f r depth
  pub shows : Shows w₀ (inside f) words m
  pub same : length words ≡ length w₀
