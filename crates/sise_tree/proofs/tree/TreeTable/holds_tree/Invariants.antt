-- Before each turn, every node passed is good, and it is known whether each atom of them is one; so at the end the table holds a tree, and where a node is
-- not good it holds none.
use Rattle.sise_tree.proofs.HeldLaws.{Passed}
use Rattle.sise_tree.proofs.tree.TreeTable.holds_tree.Given as goal

abbrev pub invariant-loop-i : goal.invariant-loop-i
invariant-loop-i l = Passed l.self.text.now l.self.table.now l.i l.held
