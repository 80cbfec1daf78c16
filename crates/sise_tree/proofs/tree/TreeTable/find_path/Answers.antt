-- Each way out of the loop answers as the whole path does; each turn leads to the child of the path's next index.
use mathlib.Core.Path.{sym}
use Rattle.std.proofs.lemmas.Result.{err_from_is_err_and}
use Rattle.sise_tree.proofs.NodeLaws.{its_words, no_words, some_of, none_of}
use Rattle.sise_tree.proofs.FindLaws.{too_long, going_root, going_outside, going_found, going_atom, going_none, going_stop, going_on}
use Rattle.sise_tree.proofs.tree.TreeTable.find_path.Goals.{then-list-ne0-via-then-list-ne0, then-list-ne0-via-else-list-ne0+then-index-list}
use Rattle.sise_tree.proofs.tree.TreeTable.find_path.Goals as goal

pub returns-then-self-gt-LONGEST : goal.returns-then-self-gt-LONGEST
returns-then-self-gt-LONGEST c = sym (too_long _ _ _ c.if-self-gt-LONGEST.true)

pub loop-index-init : goal.loop-index-init
loop-index-init c = going_root _ _ _ c.if-self-gt-LONGEST.false

pub returns-in_err-list : goal.returns-in_err-list
returns-in_err-list c =
    let (none, e) = none_of _ _ c.ok_or.ensures.value c.in_err-list.was in
    let p = err_from_is_err_and c.from_residual.result c.from_residual.ensures.1 in
    rw (p.1, p.2, e) (sym (going_outside c.loop-index.invariant (no_words _ _ c.node.ensures none)))

pub returns-then-list-ne0 : goal.returns-then-list-ne0
returns-then-list-ne0 c =
    let (within, its) = its_words _ _ c.node.ensures (some_of _ _ c.ok_or.ensures.value c.in_ok-list.was) in
    elim c.then-list-ne0.branch [
      | then-list-ne0-via-then-list-ne0 w ↦ sym (going_atom c.loop-index.invariant within c.loop-index-test.true (rw its at w.if-list-ne0.true))
      | then-list-ne0-via-else-list-ne0+then-index-list w ↦ sym (going_none c.loop-index.invariant within c.loop-index-test.true (rw its at w.if-list-ne0.false) (rw its at w.if-index-list.true))
    ]

pub returns-in_err-at : goal.returns-in_err-at
returns-in_err-at c =
    let (within, its) = its_words _ _ c.node.ensures (some_of _ _ c.ok_or.ensures.value c.in_ok-list.was) in
    let (none, e) = none_of _ _ c.ok_or-in-loop-index.ensures.value c.in_err-at.was in
    let p = err_from_is_err_and c.from_residual-in_err-at.result c.from_residual-in_err-at.ensures.1 in
    rw (p.1, p.2, e) (sym (going_stop c.loop-index.invariant within c.loop-index-test.true (rw its at c.if-list-ne0.false) (rw its at c.if-index-list.false) c.passed.ensures.same none))

pub loop-index-preserved : goal.loop-index-preserved
loop-index-preserved c =
    let (within, its) = its_words _ _ c.node.ensures (some_of _ _ c.ok_or.ensures.value c.in_ok-list.was) in
    let behind = some_of _ _ c.ok_or-in-loop-index.ensures.value c.in_ok-at.was in
    going_on c.loop-index.invariant within c.loop-index-test.true (rw its at c.if-list-ne0.false) (rw its at c.if-index-list.false) c.passed.ensures.same behind (rw behind at c.passed.ensures.forward)

pub returns-in_err-ok_or : goal.returns-in_err-ok_or
returns-in_err-ok_or c =
    let (none, e) = none_of _ _ c.ok_or-2.ensures.value c.in_err-ok_or.was in
    let p = err_from_is_err_and c.from_residual-in_err-ok_or.result c.from_residual-in_err-ok_or.ensures.1 in
    rw (p.1, p.2, e) (sym (going_outside c.loop-index.invariant (no_words _ _ c.node-2.ensures none)))

pub returns : goal.returns
returns c =
    sym (going_found c.loop-index.invariant (its_words _ _ c.node-2.ensures (some_of _ _ c.ok_or-2.ensures.value c.in_ok-ok_or.was)).0 c.loop-index-test.false)
