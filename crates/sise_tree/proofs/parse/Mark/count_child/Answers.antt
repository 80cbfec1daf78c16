-- The root has no list to count it; else the list's second word grows by one, which is what one child more makes of the words.
use native.Mathlib.Omega.{arith}
use Rattle.sise_tree.proofs.FillingParts.{attaches_none, counting, attaches_set}
use Rattle.sise_tree.proofs.parse.Mark.count_child.Goals as goal

pub returns-then-self : goal.returns-then-self
returns-then-self c = attaches_none _ c.if-self.true

pub bounds-table-i : goal.bounds-table-i
bounds-table-i c =
    let k = counting _ c.if-self.false c.requires in
    omega (arith, k.within, c.wide-i.ensures.same)

pub overflow_add-table-2 : goal.overflow_add-table-2
overflow_add-table-2 c =
    let k = counting _ c.if-self.false c.requires in
    rw c.wide-i.ensures.same (record { fits = k.small })

pub bounds-table-i-2 : goal.bounds-table-i-2
bounds-table-i-2 c =
    let k = counting _ c.if-self.false c.requires in
    omega (arith, k.within, c.wide-i.ensures.same)

pub returns : goal.returns
returns c = attaches_set _ c.if-self.false c.wide-i.ensures.same
