-- At each return the tests that led there are those of the definition, on the words that were read.
use Prim.Native.Nat.{ℕ, ◌-◌}
use native.Mathlib.Omega.{arith}
use mathlib.Core.Path.{◌≡◌, sym, ap, ◌∙◌}
use mathlib.Core.Bool.{Bool, true}
use mathlib.Core.List.{List}
use lib.ListN.{length, take, drop, length-drop}
use lib.Seq.{take_all}
use Rattle.std.proofs.lemmas.Result.{err_from_is_err_and}
use Rattle.sise_tree.specs.Held.{held_if}
use Rattle.sise_tree.proofs.HeldLaws.{held_short, held_list, held_long, held_past, held_atom}
use Rattle.sise_tree.proofs.NodeLaws.{its_words, no_words, some_of, none_of}
use Rattle.sise_tree.proofs.tree.TreeTable.node_holds.Goals.{then-node-ne1-via-then-node-ne1, then-node-ne1-via-else-node-ne1+then-self-first}
use Rattle.sise_tree.proofs.tree.TreeTable.node_holds.Goals as goal

-- what is left of a text is all of it
all_left : (xs : List ℕ) (at : ℕ) → take (length xs - at) (drop at xs) ≡ drop at xs
all_left xs at = take_all (length xs - at) (drop at xs) (omega (arith, length-drop at xs))

pub returns-in_err-node : goal.returns-in_err-node
returns-in_err-node c =
    let (none, e) = none_of _ _ c.ok_or.ensures.value c.in_err-node.was in
    let p = err_from_is_err_and c.from_residual.result c.from_residual.ensures.1 in
    rw (p.1, p.2, e) (held_short _ _ (no_words _ _ c.node.ensures none))

pub returns-then-fills : goal.returns-then-fills
returns-then-fills c =
    let a = c.args in
    let (within, its) = its_words _ _ c.node.ensures (some_of _ _ c.ok_or.ensures.value c.in_ok-node.was) in
    let e = rw (c.wide-first.ensures.same, c.wide.ensures.same, its) at c.fills.ensures in
    sym (ap (λ (b : Bool). held_if b true) c.if-fills.true) ∙ held_list a.self.text.now a.self.table.now within (rw its at c.if-node-eq0.true) e

pub returns-then-node-eq0 : goal.returns-then-node-eq0
returns-then-node-eq0 c =
    let a = c.args in
    let (within, its) = its_words _ _ c.node.ensures (some_of _ _ c.ok_or.ensures.value c.in_ok-node.was) in
    let e = rw (c.wide-first.ensures.same, c.wide.ensures.same, its) at c.fills.ensures in
    sym (ap (λ (b : Bool). held_if b true) c.if-fills.false) ∙ held_list a.self.text.now a.self.table.now within (rw its at c.if-node-eq0.true) e

pub returns-then-node-ne1 : goal.returns-then-node-ne1
returns-then-node-ne1 c =
    let a = c.args in
    let (within, its) = its_words _ _ c.node.ensures (some_of _ _ c.ok_or.ensures.value c.in_ok-node.was) in
    elim c.then-node-ne1.branch [
      | then-node-ne1-via-then-node-ne1 w ↦ held_long a.self.text.now a.self.table.now within (rw its at c.if-node-eq0.false) (rw its at w.if-node-ne1.true)
      | then-node-ne1-via-else-node-ne1+then-self-first w ↦
          held_past a.self.text.now a.self.table.now within (rw its at c.if-node-eq0.false) (rw its at w.if-node-ne1.false)
          (rw (c.wide-first.ensures.same, c.wide-len.ensures.same, its) at w.if-self-first.true)
    ]

pub returns : goal.returns
returns c =
    let a = c.args in
    let (within, its) = its_words _ _ c.node.ensures (some_of _ _ c.ok_or.ensures.value c.in_ok-node.was) in
    rw (c.kind_holds.ensures, c.check_atom_prefix.ensures, all_left a.self.text.now c.wide-first.result, c.wide-first.ensures.same, c.wide-len.ensures.same, its)
    (held_atom a.self.text.now a.self.table.now within (rw its at c.if-node-eq0.false) (rw its at c.if-node-ne1.false)
    (rw (c.wide-first.ensures.same, c.wide-len.ensures.same, its) at c.if-self-first.false))
