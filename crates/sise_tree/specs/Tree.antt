-- Trees and their tables (document 01, "Trees", and 02, 2.3 and 2.6).
-- Assumes nothing.
use Rattle.std.specs.Prelude.{ℕ, ◌+◌, ◌-◌, ◌*◌, ◌/◌, ◌≤◌, ◌<◌, zero, suc, ◌≡◌, Bool, true, ◌&&◌, cond, List, [], ◌∷◌, ◌++◌, leb, ltb, eqb, length, take, drop, get_or, is_some, Option}
use Rattle.sise_util.specs.Atom.{kind_number, kind_prefix, is_atom_prefix}
use Rattle.sise_util.specs.declared.util.AtomKind.{AtomKind}

infixr 20 ◌then◌
mutual
  -- a node over a text: an atom by the number of its kind, its place and its length, or a list of nodes
  pub data Node : Type 0 where
    atom : ℕ → ℕ → ℕ → Node
    list : Nodes → Node

  pub data Nodes : Type 0 where
    empty : Nodes
    ◌then◌ : Node → Nodes → Nodes

unfoldable mutual
  -- "nodes in it with itself"
  pub size : Node → ℕ
  size (atom k p n) = 1
  size (list c) = 1 + sizes c

  pub sizes : Nodes → ℕ
  sizes empty = 0
  sizes (n then c) = size n + sizes c

unfoldable pub children : Nodes → ℕ
children empty = 0
children (n then c) = 1 + children c

unfoldable mutual
  -- "four a node, children after their list in order. List: 0, children", then 02's "distance in nodes back to its parent" d, "nodes in it with itself.
  -- Atom: 1, place, length, 1", where 02's "Tables hold 1, 2 or 3 (plain, string, mixed) as an atom's first word"
  pub table_at : ℕ → Node → List ℕ
  table_at d (atom k p n) = k ∷ p ∷ n ∷ 1 ∷ []
  table_at d (list c) = 0 ∷ children c ∷ d ∷ (1 + sizes c) ∷ tables 1 c

  -- of nodes in a row, the first of which stands d nodes behind their parent
  pub tables : ℕ → Nodes → List ℕ
  tables d empty = []
  tables d (n then c) = table_at d n ++ tables (d + size n) c

-- "0 at the root"
abbrev pub table : Node → List ℕ
table n = table_at 0 n

-- the first word of the atom at place p, n bytes long
abbrev pub kind_at : List ℕ → ℕ → ℕ → ℕ
kind_at text p n = kind_number (kind_prefix (drop p text) n)

-- "A table with the wrong one is refused as 15"; "where the bytes are no atom, each of the three passes"
abbrev pub fits_kind : Option AtomKind → ℕ → Bool
fits_kind a k = cond (is_some a) (eqb k (kind_number a)) (leb 1 k && leb k 3)

-- an atom of these three words "lies in the text", and its first word is its kind
unfoldable pub sits : List ℕ → ℕ → ℕ → ℕ → Bool
sits text k p n = leb (p + n) (length text) && fits_kind (kind_prefix (drop p text) n) k

unfoldable mutual
  -- each atom does
  pub lies : List ℕ → Node → Bool
  lies text (atom k p n) = sits text k p n
  lies text (list c) = lies_all text c

  pub lies_all : List ℕ → Nodes → Bool
  lies_all text empty = true
  lies_all text (n then c) = lies text n && lies_all text c

unfoldable mutual
  -- each atom is one (17: "the check of an atom is handed the rest of the text from its first byte, with the atom's length")
  pub atoms_hold : List ℕ → Node → Bool
  atoms_hold text (atom k p n) = is_atom_prefix (drop p text) n
  atoms_hold text (list c) = atoms_hold_all text c

  pub atoms_hold_all : List ℕ → Nodes → Bool
  atoms_hold_all text empty = true
  atoms_hold_all text (n then c) = atoms_hold text n && atoms_hold_all text c

-- the four words of node i
abbrev pub kind : List ℕ → ℕ → ℕ
kind words i = get_or words (4 * i) 0

abbrev pub first : List ℕ → ℕ → ℕ
first words i = get_or words (4 * i + 1) 0

abbrev pub second : List ℕ → ℕ → ℕ
second words i = get_or words (4 * i + 2) 0

abbrev pub span : List ℕ → ℕ → ℕ
span words i = get_or words (4 * i + 3) 0

-- the words begin with the node's table, and its atoms lie in the text; a list's third word is "not looked at in the first node lent", and so taken
-- as it stands
pub record Holds (text words : List ℕ) (n : Node) : Type 0 where
  pub begins : take (length (table n)) words ≡ table_at (second words 0) n
  pub in_text : lies text n ≡ true

-- ---- the same, as document 01 says it of the words

-- node i, a child of node p, if it is a list, has the distance to it as its third word
unfoldable pub linked : List ℕ → ℕ → ℕ → Bool
linked words p i = cond (eqb (kind words i) 0) (eqb (second words i) (i - p)) true

-- from node i on, the spans of so many children of node p end exactly at node e
unfoldable pub fills : List ℕ → ℕ → ℕ → ℕ → ℕ → Bool
fills words p zero i e = eqb i e
fills words p (suc c) i e = ltb i e && (leb 1 (span words i) && (linked words p i && fills words p c (i + span words i) e))

-- the same, and node e is in the table or just past it
unfoldable pub fills_in : List ℕ → ℕ → ℕ → ℕ → ℕ → Bool
fills_in words p c i e = leb e (length words / 4) && fills words p c i e

-- node i "has one of these forms", a list's "children fill its span exactly", an atom "lies in the text"
unfoldable pub good : List ℕ → List ℕ → ℕ → Bool
good text words i =
    cond (eqb (kind words i) 0)
    (fills_in words i (first words i) (i + 1) (i + span words i))
    (eqb (span words i) 1 && sits text (kind words i) (first words i) (second words i))

-- "A table holds a tree when the first node's nodes fit and each has one of these forms, each list's children fill its span exactly, and each atom lies
-- in the text"
pub record HoldsTree (text words : List ℕ) : Type 0 where
  pub begun : 1 ≤ span words 0
  pub fit : span words 0 ≤ length words / 4
  pub each : (k : ℕ) → k < span words 0 → good text words k ≡ true
