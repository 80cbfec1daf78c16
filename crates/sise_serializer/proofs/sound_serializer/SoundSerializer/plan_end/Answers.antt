-- Each return is the definition's answer, at the phase; an open list is closed by the test of its breaks.
use native.Mathlib.Omega.{arith}
use mathlib.Core.Path.{refl}
use Rattle.sise_serializer.specs.Serializer.{style_of, end_in}
use Rattle.sise_serializer.proofs.Sound.{sound, writing_lists}
use Rattle.sise_serializer.proofs.Does.{end_in_lem, end_refused, close_broken, close_unbroken}
use Rattle.sise_serializer.proofs.sound_serializer.SoundSerializer.plan_end.Goals as goal

pub returns-in-Beginning : goal.returns-in-Beginning
unfolding end_in
returns-in-Beginning c = let a = c.args in rw (end_in_lem (style_of a.style) a.room a.self.serializer a.self.sound c.in-Beginning.is) refl

pub plan_end_on_new_line-requires-clause-open : goal.plan_end_on_new_line-requires-clause-open
plan_end_on_new_line-requires-clause-open c = writing_lists c.args.self.serializer c.args.self.sound c.in-Writing.is

pub returns-in-Writing : goal.returns-in-Writing
unfolding end_in
returns-in-Writing c =
    let a = c.args in
    rw (end_in_lem (style_of a.style) a.room a.self.serializer a.self.sound c.in-Writing.is, close_broken _ a.self.serializer c.if-self.true) c.plan_end_on_new_line.ensures

pub plan_end_in_line-requires : goal.plan_end_in_line-requires
plan_end_in_line-requires c = let unequal = c.if-self.false in let few = (sound _ c.args.self.sound).checked.broken in omega arith

pub returns-in-Writing-2 : goal.returns-in-Writing-2
unfolding end_in
returns-in-Writing-2 c =
    let a = c.args in
    rw (end_in_lem (style_of a.style) a.room a.self.serializer a.self.sound c.in-Writing-2.is, close_unbroken _ a.self.serializer c.if-self.false) c.plan_end_in_line.ensures

pub returns-in-Finished : goal.returns-in-Finished
returns-in-Finished c = let a = c.args in rw (end_refused (style_of a.style) a.room a.self.serializer a.self.sound c.in-Finished.is) refl
