-- When two trees of bytes are equal (document 02, 2.4: "their trees are equal, atoms by their bytes").
-- Assumes nothing.
use Rattle.std.specs.Prelude.{ℕ, ◌≡◌, List}
use Rattle.sise_tree_writer.specs.Alike.{Tree, leaf, branch, Trees, nothing, ◌also◌}

mutual
  pub data Equal : Tree → Tree → Type 0 where
    -- two atoms of the same bytes
    atoms : {a b : List ℕ} → a ≡ b → Equal (leaf a) (leaf b)
    -- two lists whose nodes are equal, one by one
    lists : {c d : Trees} → Equals c d → Equal (branch c) (branch d)

  pub data Equals : Trees → Trees → Type 0 where
    none : Equals nothing nothing
    more : {x y : Tree} {c d : Trees} → Equal x y → Equals c d → Equals (x also c) (y also d)
