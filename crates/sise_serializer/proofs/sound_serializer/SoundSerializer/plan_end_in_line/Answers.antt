-- The spot that was looked for is the piece's, and the record is the one behind it.
use mathlib.Core.Path.{◌≡◌, refl, ◌∙◌}
use native.Mathlib.Nat.{add-zero}
use native.Mathlib.Omega.{arith}
use Prim.Native.Nat.{◌-◌, min}
use mathlib.Core.Bool.{false}
use Rattle.sise_serializer.specs.Serializer.{style_of, close_as}
use Rattle.sise_serializer.specs.declared.plan.Layout.TheVariants.{Nothing}
use Rattle.sise_serializer.proofs.Plans.{planned, full}
use Rattle.sise_serializer.proofs.sound_serializer.SoundSerializer.plan_end_in_line.Goals as goal

pub returns-in_err-spot : goal.returns-in_err-spot
unfolding close_as
returns-in_err-spot c =
    let a = c.args in
    let s = style_of a.style in
    full s a.room a.self.serializer (close_as s a.self.serializer false) Nothing c.find.ensures refl refl _ c.in_err-spot.was c.from_residual.ensures.1

pub returns : goal.returns
unfolding close_as
returns c =
    let a = c.args in
    let s = style_of a.style in
    let kept : min a.self.serializer.broken (a.self.serializer.lists - 1) ≡ a.self.serializer.broken = omega (arith, c.requires) in
    planned s a.room a.self.serializer (close_as s a.self.serializer false) Nothing c.find.ensures refl refl c.in_ok-spot.was c.new.ensures
    (λ q. c.behind_end_in_line-serializer.ensures ∙ rw (q, add-zero, kept) refl)
