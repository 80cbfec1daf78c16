-- The spot that was looked for is the piece's, and the record is the one behind it.
use mathlib.Core.Path.{refl, sym, ◌∙◌}
use native.Mathlib.Omega.{arith}
use Rattle.sise_serializer.specs.Serializer.{style_of, new_line, laid, inner_as}
use Rattle.sise_serializer.specs.declared.plan.Layout.TheVariants.{Line}
use Rattle.sise_serializer.proofs.Bytes.{layout_length}
use Rattle.sise_serializer.proofs.Plans.{planned, full}
use Rattle.sise_serializer.proofs.Spots.{found_ok}
use Rattle.sise_serializer.proofs.sound_serializer.SoundSerializer.plan_on_new_line.Goals as goal

pub returns-in_err-spot : goal.returns-in_err-spot
unfolding inner_as laid
returns-in_err-spot c token e =
    let a = c.args in
    let s = style_of a.style in
    full s a.room a.self.serializer (inner_as s a.self.serializer token a.is_list new_line) (Line a.self.serializer.lists) c.find.ensures refl e _ c.in_err-spot.was c.from_residual.ensures.1

pub overflow_mul-line_len : goal.overflow_mul-line_len
overflow_mul-line_len c =
    let f = found_ok _ _ _ _ (sym c.find.ensures ∙ c.in_ok-spot.was) in
    omega (arith, f.in_limit, layout_length c.args.style.line_break.now c.args.self.serializer.lists c.args.style.indentation.now)

pub overflow_add-line_len : goal.overflow_add-line_len
overflow_add-line_len c =
    let f = found_ok _ _ _ _ (sym c.find.ensures ∙ c.in_ok-spot.was) in
    omega (arith, f.in_limit, layout_length c.args.style.line_break.now c.args.self.serializer.lists c.args.style.indentation.now)

pub returns : goal.returns
unfolding inner_as laid
returns c token e =
    let a = c.args in
    let s = style_of a.style in
    planned s a.room a.self.serializer (inner_as s a.self.serializer token a.is_list new_line) (Line a.self.serializer.lists) c.find.ensures refl e c.in_ok-spot.was c.new.ensures
    (λ q. c.behind_new_line-serializer.ensures ∙ rw (q, e) refl)
