-- Each return is the definition's answer, at the phase; in a list the threshold picks the gap.
use mathlib.Core.Path.{refl}
use Rattle.sise_serializer.specs.Serializer.{style_of}
use Rattle.sise_serializer.proofs.Does.{item_first, item_on_new_line, item_in_line, item_refused}
use Rattle.sise_serializer.proofs.sound_serializer.SoundSerializer.plan_item.Goals as goal

pub returns-in-Beginning : goal.returns-in-Beginning
returns-in-Beginning c token e =
    let a = c.args in
    let s = style_of a.style in
    rw (item_first s a.room a.self.serializer token a.is_list a.break_line_at c.in-Beginning.is) (c.plan_first.ensures token e)

pub returns-in-Writing : goal.returns-in-Writing
returns-in-Writing c token e =
    let a = c.args in
    rw (item_on_new_line (style_of a.style) a.room a.self.serializer token a.is_list a.break_line_at c.in-Writing.is c.if-break_line_at-self.true) (c.plan_on_new_line.ensures token e)

pub returns-in-Writing-2 : goal.returns-in-Writing-2
returns-in-Writing-2 c token e =
    let a = c.args in
    let s = style_of a.style in
    rw (item_in_line s a.room a.self.serializer token a.is_list a.break_line_at c.in-Writing-2.is c.if-break_line_at-self.false) (c.plan_in_line.ensures token e)

pub returns-in-Finished : goal.returns-in-Finished
returns-in-Finished c token e =
    let a = c.args in
    rw (item_refused (style_of a.style) a.room a.self.serializer token a.is_list a.break_line_at c.in-Finished.is) refl
