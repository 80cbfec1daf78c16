-- `sise_write_calls` meets its contract: it hands on what write_calls promises, and of the record the position alone.
use Prim.Native.Nat.{ℕ}
use mathlib.Core.Path.{◌≡◌, ap}
use mathlib.Core.List.{List, [], ◌∷◌}
use lib.ListN.{length}
use Rattle.sise_serializer.specs.Serializer.{Style}
use Rattle.sise_serializer.specs.Words.{calls_of, Runs, WritesCalls}
use Rattle.sise_serializer.specs.declared.calls.Ran.{Ran}
use Rattle.sise_serializer.specs.declared.serializer.Serializer.{Serializer}
use Rattle.sise_c.proofs.sise_write_calls.Goals as goal

handed_on : {s : Style} {words atoms b before : List ℕ} {r : Ran} {bytes now : List ℕ} → Runs s words atoms b before r bytes now
    → WritesCalls s words atoms b before r.serializer.position bytes now × (r.calls ∷ [] ≡ length (calls_of words atoms (length before)) ∷ [])
handed_on t = (
  record { size = ap (λ (w : Serializer). w.position) t.serializer; buffer = t.buffer; answers = t.answers },
  ap (λ (n : ℕ). n ∷ []) t.calls,
)

pub returns : goal.returns
returns c = let p = handed_on (rw c.new-style.ensures at c.write_calls-all.ensures) in record { writes = p.0; ran = p.1 }
