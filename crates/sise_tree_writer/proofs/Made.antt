-- A call that is accepted puts one piece, which has room: what the functions that write a piece promise is what the call does.
-- Assumes nothing.
use Prim.Native.Nat.{ℕ, ◌+◌, ◌≤◌, min}
use native.Mathlib.Omega.{arith}
use mathlib.Core.Path.{◌≡◌, refl, sym, ap, ◌∙◌}
use lib.ListN.{length}
use Rattle.sise_serializer.specs.Serializer as writer
use Rattle.sise_serializer.specs.Serializer.{limit, Style, Piece, Written, first_atom, first_list, inner, close}
use Rattle.sise_serializer.specs.Calls.{Call, end_list_call, step}
use Rattle.sise_serializer.specs.declared.serializer.Phase.TheVariants.{Writing}
use Rattle.sise_serializer.specs.declared.serializer.Serializer.{Serializer}
use Rattle.sise_serializer.proofs.Verdicts.{end_of, put, Puts, list_closed, Verdict, refuses, puts, verdict}

-- a refusal is no acceptance
pub no_offset : {A : Type 0} {n o : ℕ} → writer.Answer.refused n ≡ writer.Answer.accepted o → A
no_offset {n = n} {o} e = let z : ◌≡◌ {A = ℕ} 0 1 = cc in absurd (omega arith)

-- the piece of a call that is accepted
pub record Made (s : Style) (room : ℕ) (w : Serializer) (c : Call) (r : Written) : Type 0 where
  pub piece : Piece
  pub its : Puts s w c piece
  pub is : r ≡ put w piece
  pub within : end_of w piece ≤ min room limit

made_of : (s : Style) (room : ℕ) (w : Serializer) (c : Call) (r : Written) {o : ℕ} → Verdict s room w c r → r.answer ≡ writer.Answer.accepted o → Made s room w c r
made_of s room w c r (refuses n u) e = no_offset e
made_of s room w c r (puts p q f) e = record { piece = p; its = q; is = refl; within = f }

pub made : (s : Style) (room : ℕ) (w : Serializer) (c : Call) {o : ℕ} → (step s room w c).answer ≡ writer.Answer.accepted o → Made s room w c (step s room w c)
made s room w c e = made_of s room w c (step s room w c) (verdict s room w c) e

-- its offset is behind the piece's layout
pub made_offset : (s : Style) (room : ℕ) (w : Serializer) (c : Call) {o : ℕ} (e : (step s room w c).answer ≡ writer.Answer.accepted o)
    → o ≡ w.position + length (made s room w c e).piece.layout
made_offset s room w c e = let q = sym e ∙ ap (λ (x : Written). x.answer) (made s room w c e).is in cc

-- the end of a list is accepted in a list
pub end_writing : (s : Style) (room : ℕ) (w : Serializer) {o : ℕ} → (step s room w end_list_call).answer ≡ writer.Answer.accepted o → w.phase ≡ Writing
end_writing s room w e = of (made s room w end_list_call e).its
  where
    of : {p : Piece} → Puts s w end_list_call p → w.phase ≡ Writing
    of (list_closed h) = h
