-- Of the record that the calls leave the position alone is returned.
use mathlib.Core.Path.{ap}
use Rattle.sise_serializer.specs.declared.serializer.Serializer.{Serializer}
use Rattle.sise_singly.proofs.sise_write_calls_singly.Goals as goal

pub returns : goal.returns
returns c =
    let r = rw c.new-style.ensures at c.run_calls-ran.ensures in
    record { size = ap (λ (w : Serializer). w.position) r.serializer; buffer = r.buffer; answers = r.answers }
