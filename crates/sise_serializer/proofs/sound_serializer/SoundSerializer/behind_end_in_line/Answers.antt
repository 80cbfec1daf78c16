-- The counts of a sound record are small, so that no sum wraps.
use native.Mathlib.Omega.{arith}
use Rattle.sise_serializer.proofs.Sound.{small}
use Rattle.sise_serializer.proofs.sound_serializer.SoundSerializer.behind_end_in_line.Goals as goal

pub overflow_add-result : goal.overflow_add-result
overflow_add-result c = let s = small _ c.args.self.sound in omega (arith, s.line)
