-- Each test that fails bounds the sum from below, and the last one decides; past all of them no sum or product wraps.
use native.Mathlib.Omega.{arith}
use mathlib.Core.Path.{sym, ◌∙◌}
use borrow.Author.Tests.{leb-true, leb-false}
use Rattle.sise_serializer.proofs.Spots.{spot_at, spot_none}
use Rattle.sise_serializer.proofs.buffer.find_spot.Goals as goal

pub returns-in_err-checked_sub : goal.returns-in_err-checked_sub
returns-in_err-checked_sub c = c.from_residual.ensures ∙ spot_none _ _ _ _ (omega (arith, c.in_err-checked_sub.ensures))

pub returns-in_err-checked_sub-2 : goal.returns-in_err-checked_sub-2
returns-in_err-checked_sub-2 c = c.from_residual-in_err-checked_sub-2.ensures ∙ spot_none _ _ _ _ (omega (arith, c.in_ok-checked_sub.ensures, c.in_err-checked_sub-2.ensures))

pub returns-in_err-left : goal.returns-in_err-left
returns-in_err-left c = c.from_residual-in_err-left.ensures ∙ spot_none _ _ _ _ (omega (arith, c.in_ok-checked_sub.ensures, c.in_ok-checked_sub-2.ensures, c.in_err-left.ensures))

pub returns-then-not-has_room : goal.returns-then-not-has_room
returns-then-not-has_room c =
    let e = sym c.has_room.ensures ∙ c.if-not-has_room.true in
    spot_none _ _ _ _ (omega (arith, leb-false, c.in_ok-checked_sub.ensures, c.in_ok-checked_sub-2.ensures, c.in_ok-left.ensures))

pub returns : goal.returns
returns c =
    let e = sym c.has_room.ensures ∙ c.if-not-has_room.false in
    spot_at _ _ _ _ (omega arith) (omega arith) (omega (arith, leb-true, c.in_ok-checked_sub.ensures, c.in_ok-checked_sub-2.ensures, c.in_ok-left.ensures))
