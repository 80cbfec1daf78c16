-- The first item is the whole node, or a list's start. Each way through the loop then is one law of the counting's state, inside the node; the position, which
-- each item moves, measures what is left.
use Prim.Native.Nat.{◌-◌}
use native.Mathlib.Omega.{arith}
use mathlib.Core.Path.{◌≡◌, refl, ap, ◌∙◌}
use Rattle.std.specs.Prelude.{Ok}
use Rattle.std.proofs.lemmas.Result.{err_from_is_err_and}
use Rattle.sise_tree.proofs.ReadSteps.{called, took}
use Rattle.sise_tree.proofs.ParseSteps.{inside_item}
use Rattle.sise_tree.proofs.Counting.{counts_none, refused_ends, start_goes, atom_ends, atom_goes, close_ends, list_ends, list_goes}
use Rattle.sise_tree.proofs.parse.count_nodes.Goals as goal

pub returns-in_err-first : goal.returns-in_err-first
returns-in_err-first c =
    let p = err_from_is_err_and c.from_residual.result c.from_residual.ensures.1 in
    rw (p.1, p.2) (refused_ends _ _ (counts_none _ _) (called c.next_item-first.result c.next_item-first.ensures c.in_err-first.was) refl)

pub returns-in-Atom : goal.returns-in-Atom
returns-in-Atom c = atom_ends _ _ (counts_none _ _) (called c.next_item-first.result c.next_item-first.ensures (c.in_ok-first.was ∙ ap Ok c.in-Atom.is)) refl

pub returns-in-ListEnd : goal.returns-in-ListEnd
returns-in-ListEnd c = close_ends _ _ (counts_none _ _) (called c.next_item-first.result c.next_item-first.ensures (c.in_ok-first.was ∙ ap Ok c.in-ListEnd.is)) refl

pub loop-nodes-init : goal.loop-nodes-init
loop-nodes-init c =
    let (g, h) = start_goes _ _ (counts_none _ _) (called c.next_item-first.result c.next_item-first.ensures (c.in_ok-first.was ∙ ap Ok c.in-ListStart.is)) in
    (g, 1, (λ z. omega arith), h)

pub returns-in_err-next : goal.returns-in_err-next
returns-in_err-next c =
    let (f, depth, some, h) = c.loop-nodes.invariant in
    let p = err_from_is_err_and c.from_residual-in_err-next.result c.from_residual-in_err-next.ensures.1 in
    rw (p.1, p.2) (refused_ends _ _ h (inside_item _ _ h.stands some (called c.next_item-next.result c.next_item-next.ensures c.in_err-next.was)) refl)

pub overflow_add-nodes : goal.overflow_add-nodes
overflow_add-nodes c =
    let (f, depth, some, h) = c.loop-nodes.invariant in
    let t = took _ _ (inside_item _ _ h.stands some (called c.next_item-next.result c.next_item-next.ensures (c.in_ok-next.was ∙ ap Ok c.in-Atom-2.is))) in
    omega (arith, h.early, t.moves, t.within)

pub loop-nodes-smaller-in-Atom-2 : goal.loop-nodes-smaller-in-Atom-2
loop-nodes-smaller-in-Atom-2 c =
    let (f, depth, some, h) = c.loop-nodes.invariant in
    let t = took _ _ (inside_item _ _ h.stands some (called c.next_item-next.result c.next_item-next.ensures (c.in_ok-next.was ∙ ap Ok c.in-Atom-2.is))) in
    omega (arith, t.moves, t.within)

pub overflow_add-nodes-in-ListStart-2 : goal.overflow_add-nodes-in-ListStart-2
overflow_add-nodes-in-ListStart-2 c =
    let (f, depth, some, h) = c.loop-nodes.invariant in
    let t = took _ _ (inside_item _ _ h.stands some (called c.next_item-next.result c.next_item-next.ensures (c.in_ok-next.was ∙ ap Ok c.in-ListStart-2.is))) in
    omega (arith, h.early, t.moves, t.within)

pub loop-nodes-smaller-in-ListStart-2 : goal.loop-nodes-smaller-in-ListStart-2
loop-nodes-smaller-in-ListStart-2 c =
    let (f, depth, some, h) = c.loop-nodes.invariant in
    let t = took _ _ (inside_item _ _ h.stands some (called c.next_item-next.result c.next_item-next.ensures (c.in_ok-next.was ∙ ap Ok c.in-ListStart-2.is))) in
    omega (arith, t.moves, t.within)

pub loop-nodes-preserved-in-Atom-2 : goal.loop-nodes-preserved-in-Atom-2
loop-nodes-preserved-in-Atom-2 c =
    let (f, depth, some, h) = c.loop-nodes.invariant in
    let (g, k) = atom_goes _ _ h (inside_item _ _ h.stands some (called c.next_item-next.result c.next_item-next.ensures (c.in_ok-next.was ∙ ap Ok c.in-Atom-2.is))) some in
    (g, depth, some, k)

pub loop-nodes-preserved-in-ListStart-2 : goal.loop-nodes-preserved-in-ListStart-2
loop-nodes-preserved-in-ListStart-2 c =
    let (f, depth, some, h) = c.loop-nodes.invariant in
    let (g, k) = start_goes _ _ h (inside_item _ _ h.stands some (called c.next_item-next.result c.next_item-next.ensures (c.in_ok-next.was ∙ ap Ok c.in-ListStart-2.is))) in
    (g, _, (λ z. omega arith), k)

pub returns-then-reader-lists : goal.returns-then-reader-lists
returns-then-reader-lists c =
    let (f, depth, some, h) = c.loop-nodes.invariant in
    let e = inside_item _ _ h.stands some (called c.next_item-next.result c.next_item-next.ensures (c.in_ok-next.was ∙ ap Ok c.in-ListEnd-2.is)) in
    list_ends _ _ h e some (omega (arith, c.if-reader-lists.true, (took _ _ e).leaves.0, h.stands.listed))

pub loop-nodes-smaller : goal.loop-nodes-smaller
loop-nodes-smaller c =
    let (f, depth, some, h) = c.loop-nodes.invariant in
    let t = took _ _ (inside_item _ _ h.stands some (called c.next_item-next.result c.next_item-next.ensures (c.in_ok-next.was ∙ ap Ok c.in-ListEnd-2.is))) in
    omega (arith, t.moves, t.within)

pub loop-nodes-preserved : goal.loop-nodes-preserved
loop-nodes-preserved c =
    let (f, depth, some, h) = c.loop-nodes.invariant in
    let e = inside_item _ _ h.stands some (called c.next_item-next.result c.next_item-next.ensures (c.in_ok-next.was ∙ ap Ok c.in-ListEnd-2.is)) in
    let more = c.if-reader-lists.false in
    let left : depth - 1 ≡ 0 → ⊥ = λ z. more (omega (arith, some, z, (took _ _ e).leaves.0, h.stands.listed)) in
    let (g, k) = list_goes _ _ h e some left in
    (g, _, left, k)
