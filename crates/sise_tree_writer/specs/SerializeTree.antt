-- What serialize_tree answers and writes (document 01, "Trees" and "Refusals").
-- Assumes nothing.
use Rattle.std.specs.Prelude.{ℕ, ◌≡◌, Bool, true, ◌&&◌, cond, List, [], ◌∷◌, ◌++◌, ltb, length}
use Rattle.std.proofs.Math.Option.{Option, none, some}
use Rattle.sise_parser.specs.Reader.{part_of}
use Rattle.sise_serializer.specs.Serializer as writer
use Rattle.sise_serializer.specs.Serializer.{Style, is_sound}
use Rattle.sise_serializer.specs.Phases.{is_over}
use Rattle.sise_serializer.specs.declared.serializer.Serializer.{Serializer}
use Rattle.sise_serializer.specs.Calls.{largest, is_accepted, Call, put_atom_call, begin_list_call, end_list_call, step, run}
use Rattle.sise_tree.specs.Tree.{Node, atom, list, Nodes, empty, ◌then◌, atoms_hold}
use Rattle.sise_tree.specs.Decision.{decide}
use Rattle.sise_tree.specs.ParseTree.{longest}
use Rattle.sise_tree.specs.Answers.{Answer, answered, refused_with}
use Rattle.sise_tree_writer.specs.Answers.{put_as}
use Rattle.sise_tree_writer.specs.Answers.{TreeWrote}

unfoldable mutual
  -- a node's calls: an atom at the threshold a, "all else" at "the given one", t
  pub node_calls : List ℕ → ℕ → ℕ → Node → List Call
  node_calls text a t (atom k p n) = put_atom_call (part_of text p n) a ∷ []
  node_calls text a t (list c) = begin_list_call t ∷ (row_calls text largest t c ++ end_list_call ∷ [])

  -- nodes one after the other: "gives a list's first child, if an atom, the largest threshold", so the first has a threshold of its own
  pub row_calls : List ℕ → ℕ → ℕ → Nodes → List Call
  row_calls text a t empty = []
  row_calls text a t (n then c) = node_calls text a t n ++ row_calls text t t c

-- a tree's calls
abbrev pub tree_calls : List ℕ → ℕ → Node → List Call
tree_calls text t n = node_calls text t t n

-- none of the calls, one after the other, is refused: the whole has room
unfoldable pub fits : Style → ℕ → Serializer → List Call → Bool
fits s room w [] = true
fits s room w (c ∷ cs) = is_accepted (step s room w c).answer && fits s room (step s room w c).serializer cs

-- what a tree call leaves: the writer's record, its answer, and the buffer
pub record Writes : Type 0 where
  pub serializer : Serializer
  pub answer : Answer
  pub buffer : List ℕ

-- "A refused writer call leaves its record", and writes nothing
abbrev pub refuse : ℕ → List ℕ → Serializer → Writes
refuse n buffer w = record { serializer = w; answer = refused_with n; buffer = buffer }

-- "Each accepted item answers with its offset, a tree with its first item's"
abbrev pub first_offset : List writer.Answer → Answer
first_offset (writer.Answer.accepted o ∷ l) = answered o
first_offset (writer.Answer.refused n ∷ l) = refused_with n
first_offset [] = refused_with 22

-- the calls' run, where all of them fit; 22 is judged over the whole
unfoldable pub written : Style → List ℕ → Serializer → List Call → Writes
written s buffer w cs =
    let r = run s buffer w cs in
    cond (fits s (length buffer) w cs)
    (record { serializer = r.last; answer = first_offset r.answers; buffer = r.buffer })
    (refuse 22 buffer w)

-- what follows 15: 17, 19, 22, "each over the whole node before the next"; the calls are made of the node
unfoldable pub write_node : Style → List ℕ → Serializer → List ℕ → (Node → List Call) → Option Node → Writes
write_node s buffer w text calls none = refuse 15 buffer w
write_node s buffer w text calls (some n) =
    cond (atoms_hold text n)
    (cond (is_over w.phase) (refuse 19 buffer w) (written s buffer w (calls n)))
    (refuse 17 buffer w)

-- "`serialize_tree`: 13, 11, 15, 17, 19, 22", since 2.6 without 21
unfoldable pub write_tree : Style → List ℕ → Serializer → List ℕ → List ℕ → (Node → List Call) → Writes
write_tree s buffer w text words calls =
    cond (ltb longest (length text))
    (refuse 13 buffer w)
    (cond (is_sound w) (write_node s buffer w text calls (decide text words)) (refuse 11 buffer w))

unfoldable pub serialize_tree : Style → List ℕ → Serializer → List ℕ → List ℕ → ℕ → Writes
serialize_tree s buffer w text words t = write_tree s buffer w text words (tree_calls text t)

-- what a call promises, that ended with the result r and the buffer `now`: it does as d says
pub record DoesWrite (d : Writes) (r : TreeWrote) (now : List ℕ) : Type 0 where
  pub serializer : r.serializer ≡ d.serializer
  pub answer : put_as r.answer ≡ d.answer
  pub buffer : now ≡ d.buffer

-- what a call promises that writes nothing and ended with the result r: record and answer are as d says
pub record DoesMeasure (d : Writes) (r : TreeWrote) : Type 0 where
  pub serializer : r.serializer ≡ d.serializer
  pub answer : put_as r.answer ≡ d.answer
