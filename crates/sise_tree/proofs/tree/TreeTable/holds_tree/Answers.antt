-- Before each turn, every node passed is good, and it is known whether each atom of them is one; so at the end the table holds a tree, and where a node is
-- not good it holds none.
use native.Mathlib.Omega.{arith}
use mathlib.Core.Path.{sym, ap, ◌∙◌}
use mathlib.Core.Bool.{false≢true}
use Rattle.std.specs.Prelude.{Err}
use Rattle.std.proofs.lemmas.Result.{err_from_is_err_and}
use Rattle.sise_tree.specs.Tree.{good}
use Rattle.sise_tree.proofs.HeldLaws.{held_part, held_ok, held_bad, held_flawed, passed_none, passed_on, passed_flawed, held_none, held_all}
use Rattle.sise_tree.proofs.NodeLaws.{its_words, no_words, some_of, none_of}
use Rattle.sise_tree.proofs.tree.TreeTable.holds_tree.Goals as goal
use Rattle.sise_tree.proofs.tree.TreeTable.holds_tree.Goals.{then-end-eq0-via-then-end-eq0, then-end-eq0-via-else-end-eq0+then-end-self, in-Ok, in-Err-NoAtom}

pub returns-in_err-root : goal.returns-in_err-root
returns-in_err-root c =
    let (none, e) = none_of _ _ c.ok_or.ensures.value c.in_err-root.was in
    let p = err_from_is_err_and c.from_residual.result c.from_residual.ensures.1 in
    let short = no_words _ _ c.node.ensures none in
    rw (p.1, p.2, e) (held_none (λ s. omega (arith, s.begun, s.fit, short)))

pub returns-then-end-eq0 : goal.returns-then-end-eq0
returns-then-end-eq0 c =
    let (within, its) = its_words _ _ c.node.ensures (some_of _ _ c.ok_or.ensures.value c.in_ok-root.was) in
    let ends = rw its at c.wide-end.ensures.same in
    elim c.then-end-eq0.branch [
      | then-end-eq0-via-then-end-eq0 w ↦ held_none (λ s. omega (arith, s.begun, ends, w.if-end-eq0.true))
      | then-end-eq0-via-else-end-eq0+then-end-self w ↦ held_none (λ s. omega (arith, s.fit, ends, w.if-end-self.true))
    ]

pub loop-i-init : goal.loop-i-init
loop-i-init c = passed_none _ _

pub returns-in-Err-NotATree : goal.returns-in-Err-NotATree
returns-in-Err-NotATree c =
    let (within, its) = its_words _ _ c.node.ensures (some_of _ _ c.ok_or.ensures.value c.in_ok-root.was) in
    let ends = rw its at c.wide-end.ensures.same in
    let part = held_part _ _ c.loop-i.i (omega (arith, c.loop-i-test.true, c.if-end-self.false)) c.node_holds.ensures in
    held_none (λ s. false≢true (sym (held_bad _ _ part (c.in-Err-NotATree.is ∙ ap Err c.in-Err-NotATree.field-0-is)) ∙ s.each c.loop-i.i (omega (arith, c.loop-i-test.true, ends))))

pub loop-i-preserved : goal.loop-i-preserved
loop-i-preserved c =
    let part = held_part _ _ c.loop-i.i (omega (arith, c.loop-i-test.true, c.if-end-self.false)) c.node_holds.ensures in
    elim c.match-node_holds.branch [
      | in-Ok w ↦ let (good, atom) = held_ok _ _ part w.in-Ok.is in rw w.held-is (passed_on c.loop-i.invariant good atom)
      | in-Err-NoAtom w ↦ let (good, atom) = held_flawed _ _ part (w.in-Err-NoAtom.is ∙ ap Err w.in-Err-NoAtom.field-0-is) in rw w.held-is (passed_flawed c.loop-i.invariant good atom)
    ]

pub returns : goal.returns
returns c =
    let (within, its) = its_words _ _ c.node.ensures (some_of _ _ c.ok_or.ensures.value c.in_ok-root.was) in
    let ends = rw its at c.wide-end.ensures.same in
    held_all c.loop-i.invariant
    (record {
      begun = omega (arith, ends, c.if-end-eq0.false);
      fit = omega (arith, ends, c.if-end-self.false);
      each = λ k o. c.loop-i.invariant.each k (omega (arith, ends, c.loop-i-test.false));
    })
    (omega (arith, ends, c.loop-i-test.false)) (omega (arith, ends, c.loop-i.auto.i-end))
