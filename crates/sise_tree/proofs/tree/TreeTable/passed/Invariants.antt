-- Before each turn, going on from the node reached past the children that are left is going past all of them.
use Rattle.sise_tree.proofs.FindLaws.{Passing}
use Rattle.sise_tree.proofs.tree.TreeTable.passed.Given as goal

abbrev pub invariant-loop : goal.invariant-loop
invariant-loop l = Passing l.self.table.now l.first l.children l.at l.counter
