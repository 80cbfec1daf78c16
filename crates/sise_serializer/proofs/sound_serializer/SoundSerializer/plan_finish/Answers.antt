-- Each return is the definition's answer, at the phase; only a finished text goes on to `plan_last`.
use mathlib.Core.Path.{refl}
use Rattle.sise_serializer.specs.Serializer.{style_of, finish_in}
use Rattle.sise_serializer.proofs.Does.{finish_in_lem, finish_early}
use Rattle.sise_serializer.proofs.sound_serializer.SoundSerializer.plan_finish.Goals as goal

pub returns-in-Beginning : goal.returns-in-Beginning
returns-in-Beginning c = let a = c.args in rw (finish_early (style_of a.style) a.room a.self.serializer a.self.sound _ c.in-Beginning.is) refl

pub returns-in-Finished : goal.returns-in-Finished
unfolding finish_in
returns-in-Finished c = let a = c.args in rw (finish_in_lem (style_of a.style) a.room a.self.serializer a.self.sound _ c.in-Finished.is) c.plan_last.ensures

pub returns-in-Done : goal.returns-in-Done
unfolding finish_in
returns-in-Done c = let a = c.args in rw (finish_in_lem (style_of a.style) a.room a.self.serializer a.self.sound _ c.in-Done.is) refl
