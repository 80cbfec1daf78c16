-- The spot that was looked for is the piece's, and the record is the one behind it.
use mathlib.Core.Path.{refl, ◌∙◌}
use native.Mathlib.Nat.{add-zero}
use Rattle.sise_serializer.specs.Serializer.{style_of}
use Rattle.sise_serializer.specs.Parts.{first_item}
use Rattle.sise_serializer.specs.declared.plan.Layout.TheVariants.{Nothing}
use Rattle.sise_serializer.proofs.Plans.{planned, full}
use Rattle.sise_serializer.proofs.sound_serializer.SoundSerializer.plan_first.Goals as goal

pub returns-in_err-spot : goal.returns-in_err-spot
unfolding first_item
returns-in_err-spot c token e =
    let a = c.args in
    full (style_of a.style) a.room a.self.serializer (first_item a.self.serializer token a.is_list) Nothing c.find.ensures refl e _ c.in_err-spot.was c.from_residual.ensures.1

pub returns : goal.returns
unfolding first_item
returns c token e =
    let a = c.args in
    planned (style_of a.style) a.room a.self.serializer (first_item a.self.serializer token a.is_list) Nothing c.find.ensures refl e c.in_ok-spot.was c.new.ensures
    (λ q. c.behind_first-serializer.ensures ∙ rw (q, add-zero, e) refl)
