-- What index_path answers (document 01, "Trees" and "Refusals").
-- Assumes nothing.
use Rattle.std.specs.Prelude.{ℕ, zero, suc, ◌+◌, cond, List, [], ◌∷◌, ltb, length}
use Rattle.std.proofs.Math.Option.{Option, none, some}
use Rattle.sise_tree.specs.Tree.{Node, atom, list, Nodes, empty, ◌then◌, size}
use Rattle.sise_tree.specs.Decision.{decide}
use Rattle.sise_tree.specs.ParseTree.{longest}
use Rattle.sise_tree.specs.Answers.{Answer, answered, refused_with}

unfoldable mutual
  -- "a path of 64-bit child indices from 0 and answers the node's index; the empty path gives 0": from the node n, whose index is i
  pub node_at : Node → ℕ → List ℕ → Option ℕ
  node_at (atom w p m) i [] = some i
  node_at (atom w p m) i (k ∷ path) = none
  node_at (list c) i [] = some i
  node_at (list c) i (k ∷ path) = child_at c (i + 1) k path

  -- from the k-th of the nodes, the first of which has the index i
  pub child_at : Nodes → ℕ → ℕ → List ℕ → Option ℕ
  child_at empty i k path = none
  child_at (n then c) i zero path = node_at n i path
  child_at (n then c) i (suc k) path = child_at c (i + size n) k path

-- 16: "`index_path` gives `None`"
abbrev pub indexed : Option ℕ → Answer
indexed none = refused_with 16
indexed (some i) = answered i

-- 15: "the table holds no tree"
abbrev pub indexed_in : Option Node → List ℕ → Answer
indexed_in none path = refused_with 15
indexed_in (some n) path = indexed (node_at n 0 path)

-- "`index_path`: 13, 15, 16"
unfoldable pub index_path : List ℕ → List ℕ → List ℕ → Answer
index_path words text path =
    cond (ltb longest (length text)) (refused_with 13) (indexed_in (decide text words) path)
