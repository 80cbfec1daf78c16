-- Trees with atoms by their bytes: two nodes over two texts are the same if these are equal.
-- Assumes nothing.
use Rattle.std.specs.Prelude.{ℕ, ◌≡◌, List}
use Rattle.sise_parser.specs.Reader.{part_of, fresh_reader, finish_reading, ended}
use Rattle.sise_parser.specs.declared.reader.Reader.{Reader}
use Rattle.sise_tree.specs.Tree.{Node, atom, list, Nodes, empty, ◌then◌}
use Rattle.sise_tree.specs.ParseTree.{read_node, got}

infixr 20 ◌also◌
mutual
  pub data Tree : Type 0 where
    leaf : List ℕ → Tree
    branch : Trees → Tree

  pub data Trees : Type 0 where
    nothing : Trees
    ◌also◌ : Tree → Trees → Trees

unfoldable mutual
  -- a node over a text
  pub tree_of : List ℕ → Node → Tree
  tree_of text (atom k p n) = leaf (part_of text p n)
  tree_of text (list c) = branch (trees_of text c)

  pub trees_of : List ℕ → Nodes → Trees
  trees_of text empty = nothing
  trees_of text (n then c) = tree_of text n also trees_of text c

-- the text is read to its end as one node, and that is this tree
pub record ReadsAs (text : List ℕ) (tree : Tree) : Type 0 where
  pub node : Node
  pub reader : Reader
  pub reads : read_node text fresh_reader ≡ got node reader
  pub same : tree_of text node ≡ tree
  pub ended : finish_reading text reader ≡ ended
