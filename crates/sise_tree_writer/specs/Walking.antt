-- What the functions of a walk over a tree's calls do.
-- Assumes nothing.
use Rattle.std.specs.Prelude.{ℕ, ◌+◌, ◌-◌, ◌*◌, ◌≤◌, ◌≡◌, Bool, true, false, cond, List, [], ◌∷◌, eqb, length, Option, Some, None, MatchOption, Result, Ok, Err, ⊤}
use Rattle.sise_util.specs.Atom.{is_atom}
use Rattle.std.proofs.Math.Option.{some}
use Rattle.sise_parser.specs.Reader.{part_of}
use Rattle.sise_serializer.specs.Serializer as writer
use Rattle.sise_serializer.specs.Serializer.{Style, is_sound}
use Rattle.sise_serializer.specs.Calls.{largest, Call, put_atom_call, begin_list_call, end_list_call, step, run}
use Rattle.sise_serializer.specs.declared.serializer.Serializer.{Serializer}
use Rattle.sise_tree.specs.Tree.{Node, kind, first, second, span}
use Rattle.sise_tree.specs.Decision.{decide, is_some}
use Rattle.sise_tree_writer.specs.SerializeTree.{tree_calls, fits}
use Rattle.sise_tree_writer.specs.Writing.{Checked}
use Rattle.sise_tree_writer.specs.declared.serialize.WriteTreeError.{WriteTreeError}
use Rattle.sise_tree_writer.specs.declared.serialize.WriteTreeError.TheVariants.{NoRoom}
use Rattle.sise_tree_writer.specs.declared.walk.Place.{Place}
use Rattle.sise_tree_writer.specs.declared.walk.Turn.{Turn}
use Rattle.sise_tree_writer.specs.declared.walk.Turn.TheVariants as turn
use Rattle.sise_serializer.specs.declared.serializer.Placed.{Placed}

-- the turn x is due at the place p: the innermost list ends there, or the next node is a list, or it is an atom of those bytes, which is a list's first child
-- if that list has just begun
abbrev pub IsTurn : List ℕ → List ℕ → Place → Turn → Type 0
IsTurn text words p turn.End = p.i ≡ p.end
IsTurn text words p turn.List = (p.i ≡ p.end → ⊥) × (kind words p.i ≡ 0)
IsTurn text words p (turn.Atom a begins) = (p.i ≡ p.end → ⊥) × (kind words p.i ≡ 0 → ⊥) × (a.now ≡ part_of text (first words p.i) (second words p.i)) × (begins ≡ p.begins)

-- a node that is due at the place p is in the table
abbrev pub NodeIn : List ℕ → Place → Type 0
NodeIn words p = (p.i ≡ p.end → ⊥) → 4 * (p.i + 1) ≤ length words

-- and if it is an atom, that lies in the text
abbrev pub AtomIn : List ℕ → List ℕ → Place → Type 0
AtomIn text words p = (p.i ≡ p.end → ⊥) → (kind words p.i ≡ 0 → ⊥) → first words p.i + second words p.i ≤ length text

-- the innermost list may be left: its words are in the table, and so are those of the list around it
pub record Leavable (words : List ℕ) (p : Place) : Type 0 where
  pub listed : 4 * (p.list + 1) ≤ length words
  pub away : (p.list ≡ 0 → ⊥) → second words p.list ≤ p.list

-- a turn may be passed: the words that it leads to are in the table
abbrev pub Passable : List ℕ → Place → Turn → Type 0
Passable words p turn.End = Leavable words p
Passable words p turn.List = 4 * (p.i + 1) ≤ length words
Passable words p (turn.Atom a begins) = 4 * (p.i + 1) ≤ length words

abbrev place : ℕ → ℕ → ℕ → Bool → Place
place i list end begins = record { i = i; list = list; end = end; begins = begins }

-- before the first node
abbrev pub started : List ℕ → Place
started words = place 0 0 (span words 0) false

-- where a walk is in the parent of a list that was closed
abbrev outside : List ℕ → ℕ → ℕ → Place
outside words i parent = place i parent (parent + span words parent) false

-- the innermost list is left; that of the first node is the last
unfoldable pub left_list : List ℕ → Place → Option Place
left_list words p = cond (eqb p.list 0) None (Some (outside words p.i (p.list - second words p.list)))

-- where a walk goes on: the innermost list is left, or the list at the next node is entered, or the atom there is passed, which if it is the first node ends it
abbrev pub passed : List ℕ → Place → Turn → Option Place
passed words p turn.End = left_list words p
passed words p turn.List = Some (place (p.i + 1) p.i (p.i + span words p.i) true)
passed words p (turn.Atom a begins) = cond (eqb p.i 0) None (Some (place (p.i + 1) p.list p.end false))

-- a walk over the table comes to be due at a place, or to end: it begins before the first node, and goes on past each turn
pub data Comes (text words : List ℕ) : Option Place → Type 0 where
  begun : Comes text words (Some (started words))
  on : (p : Place) (x : Turn) → Comes text words (Some p) → IsTurn text words p x → Comes text words (passed words p x)

-- a walk takes turns over a table that holds a tree
abbrev pub CanTurn : List ℕ → List ℕ → Option Place → Type 0
CanTurn text words due = (is_some (decide text words) ≡ true) × Comes text words due

-- it takes the turn that is due, and goes on past it; or nothing is due
abbrev pub TakesTurn : List ℕ → List ℕ → Option Place → Option Turn → Option Place → Type 0
TakesTurn text words due r now = MatchOption r (due ≡ None) (λ x. (p : Place) × (due ≡ Some p) × IsTurn text words p x × (now ≡ passed words p x))

-- how many turns are left at most: each passes a node, or leads from a list to one before it
abbrev pub turns_left : List ℕ → Option Place → ℕ
turns_left words None = 0
turns_left words (Some p) = 1 + (1 + length words) * (length words - p.i) + p.list

-- the call of a turn at the threshold t; "gives a list's first child, if an atom, the largest threshold"
abbrev pub turn_call : Turn → ℕ → Call
turn_call turn.End t = end_list_call
turn_call turn.List t = begin_list_call t
turn_call (turn.Atom a begins) t = put_atom_call a.now (cond begins largest t)

-- an atom of a turn was checked
abbrev pub GoodTurn : Turn → Type 0
GoodTurn turn.End = ⊤
GoodTurn turn.List = ⊤
GoodTurn (turn.Atom a begins) = is_atom a.now ≡ true

-- the record after calls that all fit
unfoldable pub after : Style → ℕ → Serializer → List Call → Serializer
after s room w [] = w
after s room w (c ∷ cs) = after s room (step s room w c).serializer cs

-- the answer to the first of the calls
unfoldable pub first_answer : Style → ℕ → Serializer → List Call → writer.Answer
first_answer s room w [] = writer.Answer.refused 22
first_answer s room w (c ∷ cs) = (step s room w c).answer

-- what a walk finds of calls in a buffer of room bytes
pub data Finds (s : Style) (room : ℕ) (w : Serializer) (cs : List Call) : Result Placed WriteTreeError → Type 0 where
  all : {o : ℕ} → fits s room w cs ≡ true → first_answer s room w cs ≡ writer.Answer.accepted o → Finds s room w cs (Ok (record { serializer = after s room w cs; offset = o }))
  off : fits s room w cs ≡ false → Finds s room w cs (Err NoRoom)

-- what a walk asks for: a sound record, and a table that was checked
pub record Walkable (w : Serializer) (text words : List ℕ) : Type 0 where
  pub sound : is_sound w ≡ true
  pub checked : Checked text words

-- what a walk that measures promises
abbrev pub Walks : Style → ℕ → Serializer → List ℕ → List ℕ → ℕ → Result Placed WriteTreeError → Type 0
Walks s room w text words t r = (n : Node) → decide text words ≡ some n → Finds s room w (tree_calls text t n) r

-- a walk that writes asks for a buffer in which the calls fit, too
pub record Writable (s : Style) (buffer : List ℕ) (w : Serializer) (text words : List ℕ) (t : ℕ) : Type 0 where
  pub walkable : Walkable w text words
  pub fit : (n : Node) → decide text words ≡ some n → fits s (length buffer) w (tree_calls text t n) ≡ true

-- it promises where the calls end, and what they leave in the buffer
pub record WritesNodes (s : Style) (before : List ℕ) (w : Serializer) (text words : List ℕ) (t : ℕ) (r : ℕ) (now : List ℕ) : Type 0 where
  pub end : (n : Node) → decide text words ≡ some n → r ≡ (after s (length before) w (tree_calls text t n)).position
  pub buffer : (n : Node) → decide text words ≡ some n → now ≡ (run s before w (tree_calls text t n)).buffer
