-- The counts of a sound record are small, so that no sum wraps.
use native.Mathlib.Omega.{arith}
use Rattle.sise_serializer.proofs.Sound.{small}
use Rattle.sise_serializer.proofs.Tests.{one_at_most}
use Rattle.sise_serializer.proofs.sound_serializer.SoundSerializer.behind_new_line.Goals as goal

pub overflow_add-result : goal.overflow_add-result
overflow_add-result c = let s = small _ c.args.self.sound in omega (arith, s.depth, c.from.ensures, one_at_most c.args.is_list)

pub overflow_add-result-2 : goal.overflow_add-result-2
overflow_add-result-2 c = let s = small _ c.args.self.sound in omega (arith, s.lines)

pub overflow_add-result-3 : goal.overflow_add-result-3
overflow_add-result-3 c = let s = small _ c.args.self.sound in omega (arith, s.steps, s.depth)
