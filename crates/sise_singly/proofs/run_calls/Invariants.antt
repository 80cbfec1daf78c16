-- As in write_calls: before each turn, running what is left of the words from here leaves what running all of them leaves.
use Rattle.sise_serializer.specs.Serializer.{style_of, fresh_serializer}
use Rattle.sise_serializer.proofs.Running.{Left}
use Rattle.sise_singly.proofs.run_calls.Given as goal

abbrev pub invariant-loop-k : goal.invariant-loop-k
invariant-loop-k l = Left fresh_serializer (style_of l.style) l.words l.atoms l.initial.buf l.initial.answers l.buf l.answers l.w l.k l.rest
