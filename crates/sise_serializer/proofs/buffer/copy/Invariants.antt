-- One byte is stored. Else, before each turn the buffer, of the same length, has the first i bytes of src pasted at `at`.
use mathlib.Core.Path.{◌≡◌}
use lib.ListN.{length}
use lib.Seq.{paste}
use Rattle.sise_serializer.proofs.buffer.copy.Given as goal

abbrev pub invariant-loop-i : goal.invariant-loop-i
invariant-loop-i l = (l.buf ≡ paste l.initial.buf l.at l.src l.i) × (length l.buf ≡ length l.initial.buf)
