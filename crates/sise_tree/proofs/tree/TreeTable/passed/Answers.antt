-- Each way out of the loop says of the children that are left what the contract says of all.
use native.Mathlib.Omega.{arith}
use Rattle.sise_tree.proofs.NodeLaws.{its_words, no_words}
use Rattle.sise_tree.proofs.FindLaws.{passing_none, passing_end, passing_out, passing_stop, passing_on}
use Rattle.sise_tree.proofs.tree.TreeTable.passed.Goals as goal

pub loop-init : goal.loop-init
loop-init c = passing_none _ _ _

pub returns-in_err-span-clause-same : goal.returns-in_err-span-clause-same
returns-in_err-span-clause-same c =
    rw c.from_residual.ensures (passing_out c.loop.invariant c.loop-test.true (no_words _ _ c.node.ensures c.in_err-span.was))

pub returns-then-span-eq0-clause-same : goal.returns-then-span-eq0-clause-same
returns-then-span-eq0-clause-same c =
    let (within, its) = its_words _ _ c.node.ensures c.in_ok-span.was in
    passing_stop c.loop.invariant c.loop-test.true within (rw its at c.if-span-eq0.true)

pub loop-preserved : goal.loop-preserved
loop-preserved c =
    let (within, its) = its_words _ _ c.node.ensures c.in_ok-span.was in
    rw (c.wide.ensures.same, its) (passing_on c.loop.invariant c.loop-test.true within (rw its at c.if-span-eq0.false))

pub returns-clause-same : goal.returns-clause-same
returns-clause-same c = passing_end c.loop.invariant (omega (arith, c.loop.auto.counter-end)) c.loop-test.false
