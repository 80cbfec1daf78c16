-- The cases of the definition.
use borrow.Author.Tests.{eq-eqb, ne_eqb}
use Rattle.sise_tree_writer.specs.Walking.{left_list}
use Rattle.sise_tree_writer.proofs.walk.Place.leave.Goals as goal

pub returns-then-self-eq0 : goal.returns-then-self-eq0
unfolding left_list
returns-then-self-eq0 c = rw (eq-eqb _ _ c.if-self-eq0.true)

pub returns : goal.returns
unfolding left_list
returns c = rw (ne_eqb _ _ c.if-self-eq0.false, c.wide-2.ensures.same, c.node-2.ensures.1, c.wide.ensures.same, c.node.ensures.1)
