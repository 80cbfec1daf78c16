-- A refused call leaves record and buffer: what is put is accepted, and a refusal has the record as it was and no bytes.
-- Assumes nothing.
use Prim.Native.Nat.{ℕ}
use mathlib.Core.Path.{◌≡◌, refl, sym, ap, ◌∙◌}
use mathlib.Core.Bool.{false, false≢true}
use mathlib.Core.List.{List, []}
use lib.ListN.{length}
use Rattle.sise_serializer.specs.Bytes.{pasted}
use Rattle.sise_serializer.specs.Serializer.{Style, Written, refused}
use Rattle.sise_serializer.specs.declared.serializer.Serializer.{Serializer}
use Rattle.sise_serializer.proofs.Bytes.{pasted_none}
use Rattle.sise_serializer.specs.Calls.{is_accepted, Call, step}
use Rattle.sise_serializer.proofs.Verdicts.{Verdict, refuses, puts, verdict}

leaves : (s : Style) (room : ℕ) (w : Serializer) (c : Call) (r : Written) → Verdict s room w c r → is_accepted r.answer ≡ false → (r.serializer ≡ w) × (r.bytes ≡ [])
leaves s room w c r (refuses n u) e = (refl, refl)
leaves s room w c r (puts p o q) e = absurd (false≢true (sym e))

-- whatever the record, sound or not
pub refused_leaves : (s : Style) (buffer : List ℕ) (w : Serializer) (c : Call) (n : ℕ) → (step s (length buffer) w c).answer ≡ refused n
    → ((step s (length buffer) w c).serializer ≡ w) × (pasted buffer w.position (step s (length buffer) w c).bytes ≡ buffer)
refused_leaves s buffer w c n e =
    let l = leaves s (length buffer) w c (step s (length buffer) w c) (verdict s (length buffer) w c) (ap is_accepted e) in
    (l.0, ap (pasted buffer w.position) l.1 ∙ pasted_none buffer w.position)
