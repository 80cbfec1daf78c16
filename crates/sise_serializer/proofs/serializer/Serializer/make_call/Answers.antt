-- An unsound record is refused.
use mathlib.Core.Path.{refl}
use Rattle.sise_serializer.specs.Words.{call_as}
use Rattle.sise_serializer.proofs.Does.{refused_does, unsound_call}
use Rattle.sise_serializer.proofs.serializer.Serializer.make_call.Goals as goal

pub returns-in_default : goal.returns-in_default
returns-in_default c = let a = c.args in rw (unsound_call _ _ a.self (call_as a.call) c.in_default.ensures, c.wrote.ensures) (refused_does a.self a.buf.now 11 refl)
