-- A whole text written, and what the private functions of the tree's writing do.
-- Assumes nothing.
use Rattle.std.specs.Prelude.{ℕ, ◌≡◌, Bool, true, cond, List, [], ◌∷◌, ◌++◌, length, Option, Some, None}
use Rattle.std.proofs.Math.Option.{some}
use Rattle.sise_serializer.specs.Serializer.{Style, style_of, fresh_serializer}
use Rattle.sise_serializer.specs.declared.serializer.Serializer.{Serializer}
use Rattle.sise_serializer.specs.Calls.{largest, Call, finish_call}
use Rattle.sise_tree.specs.Tree.{Node, atoms_hold}
use Rattle.sise_tree.specs.Decision.{decide, is_some}
use Rattle.sise_tree.specs.Answers.{answered}
use Rattle.sise_tree_writer.specs.SerializeTree.{tree_calls, Writes, write_tree, DoesMeasure}
use Rattle.sise_tree_writer.specs.Answers.{TreeWrote}
use Rattle.sise_tree_writer.specs.declared.writing.Writing.{Writing}

-- a tree's calls, and a finish, with a line break if wished
unfoldable pub text_calls : List ℕ → ℕ → Bool → Node → List Call
text_calls text t wished n = tree_calls text t n ++ finish_call wished ∷ []

-- a whole text, from a fresh record: the tree that the table holds, and that finish
abbrev pub write_text : Style → List ℕ → List ℕ → List ℕ → ℕ → Bool → Writes
write_text s buffer text words t wished = write_tree s buffer fresh_serializer text words (text_calls text t wished)

-- the table holds a tree, whose atoms were checked
pub record Checked (text words : List ℕ) : Type 0 where
  pub holds : is_some (decide text words) ≡ true
  pub atoms : (n : Node) → decide text words ≡ some n → atoms_hold text n ≡ true

-- the calls of a tree, and of a finish behind it if there is one
abbrev pub calls_of : List ℕ → ℕ → Option Bool → Node → List Call
calls_of text t None = tree_calls text t
calls_of text t (Some wished) = text_calls text t wished

-- what a writing x comes to from the record w on
abbrev pub writes : Writing → List ℕ → Serializer → Writes
writes x buffer w = write_tree (style_of x.style) buffer w x.tree.text.now x.tree.table.now (calls_of x.tree.text.now x.break_line_at x.finish)

-- the same with no finish
abbrev pub tree_alone : Writing → Writing
tree_alone x = record { style = x.style; tree = x.tree; break_line_at = x.break_line_at; finish = None }

-- the threshold of an atom: "gives a list's first child, if an atom, the largest threshold"
abbrev pub line_of : Writing → Bool → ℕ
line_of x begins = cond begins largest x.break_line_at

-- what planning promises in a buffer of room bytes: record and answer
abbrev pub PlansWriting : Writing → ℕ → Serializer → TreeWrote → Type 0
PlansWriting x room w r = (b : List ℕ) → length b ≡ room → DoesMeasure (writes x b w) r

-- d is no refusal
abbrev pub IsWritten : Writes → Type 0
IsWritten d = (o : ℕ) × (d.answer ≡ answered o)
