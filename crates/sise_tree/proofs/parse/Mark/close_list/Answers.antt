-- The list's distance leads back to its parent, its fourth word is that of a closed list, and its parent counts it.
use native.Mathlib.Omega.{arith}
use mathlib.Core.Path.{◌∙◌}
use lib.ListN.{length-set}
use Rattle.sise_tree.specs.Tree.{list}
use Rattle.sise_tree.proofs.FillingParts.{closing, closed_attachable, closes_set}
use Rattle.sise_tree.proofs.parse.Mark.close_list.Goals as goal

pub bounds-table-i : goal.bounds-table-i
bounds-table-i c = let k = closing _ c.requires in omega (arith, k.early, k.within, c.wide-i.ensures.same)

pub overflow_sub-parent : goal.overflow_sub-parent
overflow_sub-parent c = let k = closing _ c.requires in rw (c.words_of.ensures, c.wide-i.ensures.same) k.back

pub words_of-requires : goal.words_of-requires
words_of-requires c = let k = closing _ c.requires in omega (arith, k.early, k.within, c.wide-i.ensures.same)

pub overflow_sub-table : goal.overflow_sub-table
overflow_sub-table c = let k = closing _ c.requires in omega (arith, k.early)

pub count_child-requires : goal.count_child-requires
count_child-requires c =
    let (f, k, rest, h) = c.requires in
    rw c.words_of.ensures (f, list k, rest, closed_attachable _ c.wide-i.ensures.same f k rest h)

pub shape_of-table : goal.shape_of-table
shape_of-table c = c.count_child.auto.table ∙ simp length-set

pub returns-clause-closes : goal.returns-clause-closes
returns-clause-closes c = rw c.words_of.ensures (closes_set _ c.wide-i.ensures.same (rw c.words_of.ensures at c.count_child.ensures))
