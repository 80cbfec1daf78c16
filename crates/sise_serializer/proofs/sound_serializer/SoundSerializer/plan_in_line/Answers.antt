-- The spot that was looked for is the piece's, and the record is the one behind it.
use mathlib.Core.Path.{◌≡◌, refl, sym, ◌∙◌}
use native.Mathlib.Omega.{arith}
use Prim.Native.Nat.{◌+◌, ◌-◌}
use lib.ListN.{length}
use Rattle.sise_serializer.specs.Serializer.{style_of}
use Rattle.sise_serializer.specs.Parts.{in_line, gap_bytes}
use Rattle.sise_serializer.specs.Plan.{layout_bytes}
use Rattle.sise_serializer.proofs.Plans.{planned, full}
use Rattle.sise_serializer.proofs.Sound.{small}
use Rattle.sise_serializer.proofs.Spots.{found_ok}
use Rattle.sise_serializer.proofs.sound_serializer.SoundSerializer.plan_in_line.Goals as goal
use Rattle.sise_serializer.proofs.sound_serializer.SoundSerializer.plan_in_line.Goals.{then-w, else-w}

pub returns-in_err-spot : goal.returns-in_err-spot
unfolding in_line
returns-in_err-spot c token e =
    let a = c.args in
    let s = style_of a.style in
    let gap : layout_bytes s c.if-w.layout ≡ gap_bytes a.self.serializer.list_beginning
    = elim c.if-w.branch [ then-w w ↦ rw (w.layout-is, w.if-w.true) refl | else-w w ↦ rw (w.layout-is, w.if-w.false) refl ] in
    full s a.room a.self.serializer (in_line a.self.serializer token a.is_list) c.if-w.layout c.find.ensures gap e _ c.in_err-spot.was c.from_residual.ensures.1

pub returns : goal.returns
unfolding in_line
returns c token e =
    let a = c.args in
    let w = a.self.serializer in
    let s = style_of a.style in
    let gap : layout_bytes s c.if-w.layout ≡ gap_bytes a.self.serializer.list_beginning
    = elim c.if-w.branch [ then-w w ↦ rw (w.layout-is, w.if-w.true) refl | else-w w ↦ rw (w.layout-is, w.if-w.false) refl ] in
    planned s a.room a.self.serializer (in_line a.self.serializer token a.is_list) c.if-w.layout c.find.ensures gap e c.in_ok-spot.was c.new.ensures
    (λ q.
    let line : w.line_len + (c.in_ok-spot.spot.end - w.position) ≡ w.line_len + length (gap_bytes w.list_beginning) + length token = omega (arith, q) in
    c.behind_in_line-serializer.ensures ∙ rw (line, q) refl)

pub overflow_sub-line_len : goal.overflow_sub-line_len
overflow_sub-line_len c = let f = found_ok _ _ _ _ (sym c.find.ensures ∙ c.in_ok-spot.was) in omega (arith, f.end)

pub overflow_add-line_len : goal.overflow_add-line_len
overflow_add-line_len c =
    let s = small _ c.args.self.sound in
    let f = found_ok _ _ _ _ (sym c.find.ensures ∙ c.in_ok-spot.was) in
    omega (arith, s.line, f.end, f.in_limit)
