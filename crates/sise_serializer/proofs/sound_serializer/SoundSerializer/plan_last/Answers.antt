-- The spot that was looked for is the piece's, and the record is the one behind it.
use mathlib.Core.Path.{◌≡◌, refl, ◌∙◌}
use native.Mathlib.Nat.{add-zero}
use mathlib.Core.List.{append-nil}
use Rattle.sise_serializer.specs.Serializer.{style_of, last}
use Rattle.sise_serializer.specs.Parts.{break_bytes}
use Rattle.sise_serializer.specs.Plan.{layout_bytes}
use Rattle.sise_serializer.proofs.Plans.{planned, full}
use Rattle.sise_serializer.proofs.sound_serializer.SoundSerializer.plan_last.Goals as goal
use Rattle.sise_serializer.proofs.sound_serializer.SoundSerializer.plan_last.Goals.{then-insert_line_break, else-insert_line_break}

pub returns-in_err-spot : goal.returns-in_err-spot
unfolding last
returns-in_err-spot c =
    let a = c.args in
    let s = style_of a.style in
    let gap : layout_bytes s c.if-insert_line_break.layout ≡ break_bytes a.insert_line_break s.line_break
    = elim c.if-insert_line_break.branch [
      | then-insert_line_break w ↦ rw (w.layout-is, w.if-insert_line_break.true) (append-nil s.line_break)
      | else-insert_line_break w ↦ rw (w.layout-is, w.if-insert_line_break.false) refl
    ] in
    full s a.room a.self.serializer (last s a.self.serializer a.insert_line_break) c.if-insert_line_break.layout c.find.ensures gap refl _ c.in_err-spot.was c.from_residual.ensures.1

pub returns : goal.returns
unfolding last
returns c =
    let a = c.args in
    let s = style_of a.style in
    let gap : layout_bytes s c.if-insert_line_break.layout ≡ break_bytes a.insert_line_break s.line_break
    = elim c.if-insert_line_break.branch [
      | then-insert_line_break w ↦ rw (w.layout-is, w.if-insert_line_break.true) (append-nil s.line_break)
      | else-insert_line_break w ↦ rw (w.layout-is, w.if-insert_line_break.false) refl
    ] in
    planned s a.room a.self.serializer (last s a.self.serializer a.insert_line_break) c.if-insert_line_break.layout c.find.ensures gap refl c.in_ok-spot.was c.new.ensures
    (λ q. c.behind_finish-serializer.ensures ∙ rw (q, add-zero) refl)
