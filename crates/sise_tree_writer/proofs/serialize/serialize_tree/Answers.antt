-- A writing of the tree alone.
use Rattle.sise_tree_writer.specs.SerializeTree.{serialize_tree}
use Rattle.sise_tree_writer.proofs.serialize.serialize_tree.Goals as goal

pub returns : goal.returns
unfolding serialize_tree
returns c = rw c.wrote.ensures (rw c.new-writing.ensures at c.write.ensures)
