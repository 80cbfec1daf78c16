-- Before each turn the buffer, of the same length, has as many copies of src pasted at `at` as there were turns.
use mathlib.Core.Path.{◌≡◌}
use lib.ListN.{length}
use Rattle.sise_serializer.specs.Bytes.{pasted, repeat}
use Rattle.sise_serializer.proofs.buffer.copies.Given as goal

abbrev pub invariant-loop-k : goal.invariant-loop-k
invariant-loop-k l = (l.buf ≡ pasted l.initial.buf l.at (repeat l.k l.src)) × (length l.buf ≡ length l.initial.buf)
