-- The first item is the whole node, or a list's start. The loop's invariant: the table stands for the lists that are open, and one is. The position, which each
-- item moves, measures what is left.
use native.Mathlib.Omega.{arith}
use Rattle.sise_tree.proofs.ReadSteps.{took}
use Rattle.sise_tree.proofs.ParseSteps.{inside_item}
use Rattle.sise_tree.proofs.FillingLoop.{fills_none, never_refused, item_fits, fill_ends, fill_goes}
use Rattle.sise_tree.proofs.parse.fill_nodes.Goals as goal

pub returns-in_default : goal.returns-in_default
returns-in_default c =
    let (n, q, k) = c.requires in
    let (r, x, e) = rw c.in_default.is at c.due_item.ensures in
    never_refused _ _ _ k (fills_none _ _ _) e

pub put_item-mark-requires : goal.put_item-mark-requires
put_item-mark-requires c =
    let (n, q, k) = c.requires in
    let h = fills_none _ _ _ in
    let (e, its) = rw c.in-Some.is at c.due_item.ensures in
    (_, its, (_, _, h.shows, item_fits _ _ _ k h e))

pub returns-then-behind-reader : goal.returns-then-behind-reader
returns-then-behind-reader c =
    let (n, q, k) = c.requires in
    let h = fills_none _ _ _ in
    let (e, its) = rw c.in-Some.is at c.due_item.ensures in
    fill_ends _ _ _ k h e (c.put_item-mark.ensures _ its _ _ h.shows (item_fits _ _ _ k h e)) c.if-behind-reader.true

pub loop-due-init : goal.loop-due-init
loop-due-init c =
    let (n, q, k) = c.requires in
    let h = fills_none _ _ _ in
    let (e, its) = rw c.in-Some.is at c.due_item.ensures in
    let other = c.if-behind-reader.false in
    let (g, s) = fill_goes _ _ _ k h e (c.put_item-mark.ensures _ its _ _ h.shows (item_fits _ _ _ k h e)) other c.put_item-mark.auto.table in
    (g, _, (λ z. other (omega (arith, s.stands.listed, z))), s)

pub returns-in_default-due_item : goal.returns-in_default-due_item
returns-in_default-due_item c =
    let (n, q, k) = c.requires in
    let (f, depth, some, h) = c.loop-due.invariant in
    let (r, x, e) = rw c.in_default-due_item.is at c.due_item-in-loop-due.ensures in
    never_refused _ _ _ k h (inside_item _ _ h.stands some e)

pub put_item-mark-requires-in-loop-due : goal.put_item-mark-requires-in-loop-due
put_item-mark-requires-in-loop-due c =
    let (n, q, k) = c.requires in
    let (f, depth, some, h) = c.loop-due.invariant in
    let (e, its) = rw c.in-Some-due_item.is at c.due_item-in-loop-due.ensures in
    (_, its, (_, _, h.shows, item_fits _ _ _ k h (inside_item _ _ h.stands some e)))

pub returns-then-behind-reader-2 : goal.returns-then-behind-reader-2
returns-then-behind-reader-2 c =
    let (n, q, k) = c.requires in
    let (f, depth, some, h) = c.loop-due.invariant in
    let (e', its) = rw c.in-Some-due_item.is at c.due_item-in-loop-due.ensures in
    let e = inside_item _ _ h.stands some e' in
    fill_ends _ _ _ k h e (c.put_item-mark-in-loop-due.ensures _ its _ _ h.shows (item_fits _ _ _ k h e)) c.if-behind-reader-2.true

pub loop-due-smaller : goal.loop-due-smaller
loop-due-smaller c =
    let (f, depth, some, h) = c.loop-due.invariant in
    let (e, its) = rw c.in-Some-due_item.is at c.due_item-in-loop-due.ensures in
    let t = took _ _ (inside_item _ _ h.stands some e) in
    omega (arith, t.moves, t.within)

pub loop-due-preserved : goal.loop-due-preserved
loop-due-preserved c =
    let (n, q, k) = c.requires in
    let (f, depth, some, h) = c.loop-due.invariant in
    let (e', its) = rw c.in-Some-due_item.is at c.due_item-in-loop-due.ensures in
    let e = inside_item _ _ h.stands some e' in
    let other = c.if-behind-reader-2.false in
    let (g, s) = fill_goes _ _ _ k h e (c.put_item-mark-in-loop-due.ensures _ its _ _ h.shows (item_fits _ _ _ k h e)) other c.put_item-mark-in-loop-due.auto.table in
    (g, _, (λ z. other (omega (arith, s.stands.listed, z))), s)
