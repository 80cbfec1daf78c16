-- From the spot that was looked for to the plan of a piece, and from a plan to what its call does once layout and token are written.
-- Assumes nothing.
use Prim.Native.Nat.{ℕ, ◌+◌}
use native.Mathlib.Omega.{arith}
use Rattle.std.specs.Prelude.{Result, Ok, Err}
use Rattle.std.specs.Result.{IsErrAnd}
use Rattle.std.proofs.lemmas.Result.{err_from_is_err_and}
use mathlib.Core.Path.{◌≡◌, refl, sym, ap, ◌∙◌}
use mathlib.Core.List.{List, ◌++◌}
use lib.ListN.{length}
use Rattle.sise_serializer.specs.Bytes.{pasted}
use Rattle.sise_serializer.specs.Serializer.{Style, Piece, Written, refuse, error_number, DoesAs, place}
use Rattle.sise_serializer.specs.Parts.{wrote_of, spot_or_full}
use Rattle.sise_serializer.specs.Plan.{layout_bytes, Fits, PlansAs}
use Rattle.sise_serializer.specs.declared.buffer.Spot.{Spot}
use Rattle.sise_serializer.specs.declared.plan.Layout.{Layout}
use Rattle.sise_serializer.specs.declared.plan.Planned.{Planned}
use Rattle.sise_serializer.specs.declared.serializer.Placed.{Placed}
use Rattle.sise_serializer.specs.declared.serializer.Serializer.{Serializer}
use Rattle.sise_serializer.specs.declared.serializer.WriteError.{WriteError}
use Rattle.sise_serializer.proofs.Does.{refused_does}
use Rattle.sise_serializer.proofs.Spots.{find_as, found_ok, not_found_err}

-- the spot of a token of n bytes behind the layout l, where those are the token and the layout of the piece b
module _ (s : Style) (room : ℕ) (w : Serializer) (b : Piece) (l : Layout) {n : ℕ} {r : Result Spot WriteError}
    (h : r ≡ spot_or_full room w.position (length (layout_bytes s l)) n) (lay : layout_bytes s l ≡ b.layout) (size : length b.token ≡ n)
  where
    piece : r ≡ spot_or_full room w.position (length b.layout) (length b.token)
    piece = find_as room w.position h (ap length lay) (sym size)

    -- a piece with room
    pub planned : {x : Spot} {v : Serializer} {p : Planned} → r ≡ Ok x → p ≡ record { placed = record { serializer = v; offset = x.at }; layout = l }
        → (x.end ≡ w.position + length b.layout + length b.token → v ≡ b.after)
        → PlansAs s room w b.token (place room w b) (Ok p)
    unfolding place
    planned t e v =
        let f = found_ok room w.position (length b.layout) (length b.token) (sym piece ∙ t) in
        rw (e, f.test) (record { done = rw (v f.end, lay, f.offset) refl; offset = rw lay f.offset; in_room = omega (arith, f.offset, f.in_room, f.in_limit) })

    -- a piece without room
    pub full : {e : WriteError} (x : Result Planned WriteError) → r ≡ Err e → IsErrAnd x (λ d. d ≡ e) → PlansAs s room w b.token (place room w b) x
    unfolding place
    full x t q =
        let m = not_found_err room w.position (length b.layout) (length b.token) (sym piece ∙ t) in
        let p = err_from_is_err_and x q in
        rw (m.0, p.1, p.2, ← m.1) refl

-- a plan carried out
module _ (s : Style) (w : Serializer) (token before : List ℕ) {d : Written} where
  -- what has room is written
  pub carried_out : {p : Planned} {now : List ℕ} → Fits s (length before) w token d p → now ≡ pasted before w.position (layout_bytes s p.layout ++ token) → DoesAs d w before (wrote_of w (Ok p.placed)) now
  carried_out f n = rw f.done (record { serializer = refl; answer = refl; buffer = n })

  -- a refusal changes nothing
  pub refused_plan : (e : WriteError) (x : Result Placed WriteError) → d ≡ refuse (error_number e) w → IsErrAnd x (λ c. c ≡ e) → DoesAs d w before (wrote_of w x) before
  refused_plan e x f q = let p = err_from_is_err_and x q in rw (f, p.1, p.2) (refused_does w before _ refl)
