-- Before each turn, running what is left of the words from here leaves what running all of them leaves.
use Rattle.sise_serializer.specs.Serializer.{style_of}
use Rattle.sise_serializer.proofs.Running.{Left}
use Rattle.sise_serializer.proofs.calls.write_calls_from.Given as goal

abbrev pub invariant-loop-k : goal.invariant-loop-k
invariant-loop-k l = Left l.fn.from (style_of l.style) l.words l.atoms l.initial.buf l.initial.answers l.buf l.answers l.serializer l.k l.rest
