-- Before each turn, going on from the node reached gives the whole path's answer.
use Rattle.sise_tree.proofs.FindLaws.{Going}
use Rattle.sise_tree.proofs.tree.TreeTable.find_path.Given as goal

abbrev pub invariant-loop-index : goal.invariant-loop-index
invariant-loop-index l = Going l.self.table.now l.self.text.now l.path l.at l.seen l.index-index
