-- From the plan of a call to what a walk knows of it, and from a call that is accepted to the piece that has room.
-- Assumes nothing.
use Prim.Native.Nat.{ℕ, ◌≤◌, min}
use native.Mathlib.Omega.{arith}
use mathlib.Core.Path.{◌≡◌, refl}
use mathlib.Core.Bool.{Bool}
use mathlib.Core.List.{List}
use lib.Dec.{leb}
use lib.ListN.{length}
use borrow.Author.Tests.{leb-true}
use Rattle.std.specs.Prelude.{Result, Ok, Err}
use Rattle.sise_util.proofs.Ranges.{split}
use Rattle.sise_serializer.specs.Serializer as writer
use Rattle.sise_serializer.specs.Serializer.{limit, Style, Piece, Written, place}
use Rattle.sise_serializer.specs.Parts.{item_in}
use Rattle.sise_serializer.specs.Plan.{PlansAs}
use Rattle.sise_serializer.specs.declared.plan.Planned.{Planned}
use Rattle.sise_serializer.specs.declared.serializer.Phase.{Phase}
use Rattle.sise_serializer.specs.declared.serializer.Phase.TheVariants.{Beginning, Writing, Finished, Done}
use Rattle.sise_serializer.specs.declared.serializer.Serializer.{Serializer}
use Rattle.sise_serializer.specs.declared.serializer.WriteError.{WriteError}
use Rattle.sise_serializer.proofs.Verdicts.{end_of, put}
use Rattle.sise_tree_writer.specs.declared.serialize.WriteTreeError.{WriteTreeError}
use Rattle.sise_tree_writer.specs.Planning.{RecordOf, behind_of, Room, WritesPiece, Accepts, Leaves}
use Rattle.sise_tree_writer.proofs.Made.{no_offset}

-- the record of a plan is that of the call
pub planned_record : (s : Style) (room : ℕ) (w : Serializer) (token : List ℕ) (d : Written) (r : Result Planned WriteError) → PlansAs s room w token d r → RecordOf d (behind_of r)
planned_record s room w token d (Ok p) f = rw f.done (refl, refl)
planned_record s room w token d (Err e) f = rw f (refl, refl)

pub planned_as : (s : Style) (room : ℕ) (w : Serializer) (token : List ℕ) (d : Written) (r : Result Planned WriteError) → PlansAs s room w token d r
    → {m : Result Serializer WriteTreeError} → m ≡ behind_of r → RecordOf d m
planned_as s room w token d r f e = rw e (planned_record s room w token d r f)

-- ---- a piece that is accepted

module _ (room : ℕ) (w : Serializer) (p : Piece) where
  accepted_put : {o : ℕ} → (place room w p).answer ≡ writer.Answer.accepted o → (end_of w p ≤ min room limit) × (place room w p ≡ put w p)
  unfolding place
  accepted_put h = split (leb (end_of w p) (min room limit)) (λ e. (leb-true _ _ e, rw e)) (λ e. no_offset (rw e at h))

module _ (w : Serializer) (p : Piece) (before : List ℕ) {d : Written} (can : Accepts d) (is : d ≡ place (length before) w p) where
  its_put : (end_of w p ≤ min (length before) limit) × (place (length before) w p ≡ put w p)
  its_put = accepted_put (length before) w p (rw is at can.1)

  -- it has room
  pub has_room : Room w p before
  has_room = let k = its_put.0 in record { inside = omega arith; within = omega arith }

  -- and written, does what the call does
  pub done : {r : Serializer} {now : List ℕ} → WritesPiece w p before r now → Leaves d w before r now
  done k = rw (is, its_put.1) (record { serializer = k.serializer; buffer = k.buffer })

-- an item that is accepted behind others is one in a list
pub item_writing : (s : Style) (room : ℕ) (w : Serializer) (token : List ℕ) (isList : Bool) (t : ℕ) → Accepts (item_in w.phase s room w token isList t) → (w.phase ≡ Beginning → ⊥)
    → w.phase ≡ Writing
unfolding item_in
item_writing s room w token isList t h f = of w.phase refl h
  where
    of : (p : Phase) → w.phase ≡ p → Accepts (item_in p s room w token isList t) → w.phase ≡ Writing
    of Beginning e k = absurd (f e)
    of Writing e k = e
    of Finished e k = no_offset k.1
    of Done e k = no_offset k.1
