-- Before each turn, what is left to step over has the whole's answer.
use native.Mathlib.Omega.{arith}
use mathlib.Core.Path.{refl, sym, ◌∙◌}
use Rattle.sise_tree.proofs.LocalSteps.{fills_outside, fills_done, fills_past, fills_stuck, fills_unlinked, fills_step, linked_first}
use Rattle.sise_tree.proofs.tree.fills.Goals.{then-node-eq0-via-then-node-eq0, then-node-eq0-via-else-node-eq0+then-not-is_linked}
use Rattle.sise_tree.proofs.tree.fills.Goals as goal

pub returns-then-end-table : goal.returns-then-end-table
returns-then-end-table c = sym (fills_outside _ _ _ _ _ c.if-end-table.true)

pub loop-left-init : goal.loop-left-init
loop-left-init c = (c.if-end-table.false, refl)

pub returns-then-at-end : goal.returns-then-at-end
returns-then-at-end c = let (within, same) = c.loop-left.invariant in sym (sym same ∙ fills_past _ _ _ within _ _ c.loop-left-test.true c.if-at-end.true)

pub singles-run-requires : goal.singles-run-requires
singles-run-requires c = (c.loop-left.invariant.0, c.if-at-end.false)

pub overflow_add-at : goal.overflow_add-at
overflow_add-at c = omega (arith, c.singles-run.ensures.within, c.loop-left.invariant.0)

pub overflow_sub-left : goal.overflow_sub-left
overflow_sub-left c = omega (arith, c.singles-run.ensures.few)

pub loop-left-smaller-then-run-gt0 : goal.loop-left-smaller-then-run-gt0
loop-left-smaller-then-run-gt0 c = omega (arith, c.singles-run.ensures.few)

pub loop-left-preserved-then-run-gt0 : goal.loop-left-preserved-then-run-gt0
loop-left-preserved-then-run-gt0 c = let (within, same) = c.loop-left.invariant in (within, c.singles-run.ensures.same _ ∙ same)

pub words_of-node-requires : goal.words_of-node-requires
words_of-node-requires c = omega (arith, c.loop-left.invariant.0, c.if-at-end.false)

pub returns-then-node-eq0 : goal.returns-then-node-eq0
returns-then-node-eq0 c =
    let (within, same) = c.loop-left.invariant in
    elim c.then-node-eq0.branch [
      | then-node-eq0-via-then-node-eq0 w ↦
          sym (sym same ∙ fills_stuck _ _ _ within _ _ c.loop-left-test.true c.if-at-end.false (rw c.words_of-node.ensures at w.if-node-eq0.true))
      | then-node-eq0-via-else-node-eq0+then-not-is_linked w ↦
          sym
          (sym same
          ∙ fills_unlinked _ _ _ within _ _ c.loop-left-test.true c.if-at-end.false (rw c.words_of-node.ensures at w.if-node-eq0.false)
          (sym (rw c.words_of-node.ensures at w.is_linked.ensures ∙ linked_first _ _) ∙ w.if-not-is_linked.true))
    ]

pub loop-left-preserved : goal.loop-left-preserved
loop-left-preserved c =
    let (within, same) = c.loop-left.invariant in (
      within,
      fills_step _ _ _ within _ _ (rw c.words_of-node.ensures at c.wide-at.ensures.same) c.loop-left-test.true c.if-at-end.false (rw c.words_of-node.ensures at c.if-node-eq0.false)
          (sym (rw c.words_of-node.ensures at c.is_linked.ensures ∙ linked_first _ _) ∙ c.if-not-is_linked.false)
          ∙ same,
    )

pub returns : goal.returns
returns c = let (within, same) = c.loop-left.invariant in sym (fills_done _ _ _ within _ _ c.loop-left-test.false) ∙ same
