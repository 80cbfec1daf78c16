-- Each node of span 1 that is no list leaves one node less to step over, and one place on: what is left has the whole's answer.
use Prim.Native.Nat.{ℕ, ◌+◌, ◌-◌, ◌≤◌, ◌<◌, ◌/◌}
use native.Mathlib.Omega.{arith}
use mathlib.Core.Path.{◌≡◌, sym, ◌∙◌}
use mathlib.Core.List.{List}
use lib.ListN.{length}
use Rattle.std.proofs.Common.{rules}
use Rattle.sise_tree.specs.Tree.{kind, span}
use Rattle.sise_tree.specs.NodeWords.{words_at}
use Rattle.sise_tree.specs.declared.tree.NodeWords.{NodeWords}
use Rattle.sise_tree.proofs.LocalSteps.{linked_none, fills_step}
use Rattle.sise_tree.proofs.tree.singles.Invariants.{Counted}
use Rattle.sise_tree.proofs.tree.singles.Goals as goal

none : (words : List ℕ) (left at end : ℕ) → at < end → Counted words left at end 0
none words left at end h =
    let p : left - 0 ≡ left = omega arith in
    let q : at + 0 ≡ at = omega arith in
    record { same = λ parent. rw (p, q); few = omega arith; within = omega arith }

one_more : {words : List ℕ} {left at end run : ℕ} {n : NodeWords} → end ≤ length words / 4 → Counted words left at end run → run < left → at + run < end → n ≡ words_at words (at + run)
    → (n.kind ≡ 0 → ⊥) → n.span ≡ 1 → Counted words left at end (run + 1)
one_more {words} {left} {at} {end} {run} fit k l e its other single =
    let p : left - (run + 1) ≡ left - run - 1 = omega arith in
    let q : at + (run + 1) ≡ at + run + 1 = omega arith in
    let atom : kind words (at + run) ≡ 0 → ⊥ = rw its at other in
    let one : span words (at + run) ≡ 1 = rw its at single in
    record {
      same = λ parent.
          rw (p, q)
          (fills_step words parent end fit (left - run) (at + run) {w = 1} (sym one) (omega arith) e (λ z. omega (arith, one)) (linked_none words parent (at + run) atom)
          ∙ k.same parent);
      few = omega arith;
      within = omega arith;
    }

pub loop-run-preserved : goal.loop-run-preserved
loop-run-preserved c =
    let most : c.min-most.result ≤ c.args.end - c.args.at = omega (arith, c.min-most.ensures) in
    one_more c.requires.0 c.loop-run.invariant (omega (arith, c.loop-run-test.true, c.min-most.ensures)) (omega (arith, c.loop-run-test.true, c.min-most.ensures))
    c.words_of-node.ensures (search rules) (search rules)
