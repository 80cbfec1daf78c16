-- The spot that was looked for is the piece's, and the record is the one behind it.
use mathlib.Core.Path.{◌≡◌, refl, sym, ◌∙◌}
use native.Mathlib.Omega.{arith}
use Prim.Native.Nat.{◌-◌, min}
use mathlib.Core.Bool.{true}
use Rattle.sise_serializer.specs.Serializer.{style_of, close_as}
use Rattle.sise_serializer.specs.declared.plan.Layout.TheVariants.{Line}
use Rattle.sise_serializer.proofs.Bytes.{layout_length}
use Rattle.sise_serializer.proofs.Plans.{planned, full}
use Rattle.sise_serializer.proofs.Spots.{found_ok}
use Rattle.sise_serializer.proofs.sound_serializer.SoundSerializer.plan_end_on_new_line.Goals as goal

pub returns-in_err-spot : goal.returns-in_err-spot
unfolding close_as
returns-in_err-spot c =
    let a = c.args in
    let s = style_of a.style in
    full s a.room a.self.serializer (close_as s a.self.serializer true) (Line (a.self.serializer.lists - 1)) c.find.ensures refl refl _ c.in_err-spot.was c.from_residual.ensures.1

pub overflow_mul-line_len : goal.overflow_mul-line_len
overflow_mul-line_len c =
    let f = found_ok _ _ _ _ (sym c.find.ensures ∙ c.in_ok-spot.was) in
    omega (arith, f.in_limit, layout_length c.args.style.line_break.now (c.args.self.serializer.lists - 1) c.args.style.indentation.now)

pub overflow_add-line_len : goal.overflow_add-line_len
overflow_add-line_len c =
    let f = found_ok _ _ _ _ (sym c.find.ensures ∙ c.in_ok-spot.was) in
    omega (arith, f.in_limit, layout_length c.args.style.line_break.now (c.args.self.serializer.lists - 1) c.args.style.indentation.now)

pub returns : goal.returns
unfolding close_as
returns c =
    let a = c.args in
    let s = style_of a.style in
    let all : min a.self.serializer.broken (a.self.serializer.lists - 1) ≡ a.self.serializer.lists - 1 = omega (arith, c.requires.broken) in
    planned s a.room a.self.serializer (close_as s a.self.serializer true) (Line (a.self.serializer.lists - 1)) c.find.ensures refl refl c.in_ok-spot.was c.new.ensures
    (λ q. c.behind_end_on_new_line-serializer.ensures ∙ rw (q, all) refl)
