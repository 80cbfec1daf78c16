-- The offset of a tree's first item: it stands where a token of no bytes would, behind the gap that phase, line length and threshold pick.
-- Assumes nothing.
use Prim.Native.Nat.{ℕ, ◌+◌, ◌≤◌, min}
use native.Mathlib.Omega.{arith}
use mathlib.Core.Path.{◌≡◌, sym, ap, ◌∙◌}
use mathlib.Core.Bool.{Bool, true, false}
use mathlib.Core.List.{List, []}
use lib.Dec.{leb}
use lib.ListN.{length}
use borrow.Author.Tests.{le-leb}
use Rattle.sise_serializer.specs.Serializer as writer
use Rattle.sise_serializer.specs.Serializer.{Style, limit, Piece, Written, refuse, error_number, place, gap_at, laid, first_atom, first_list, inner, inner_as}
use Rattle.sise_serializer.specs.Parts.{first_item, item_in}
use Rattle.sise_serializer.specs.Plan.{Fits}
use Rattle.sise_serializer.specs.Calls.{step}
use Rattle.sise_serializer.specs.declared.plan.Planned.{Planned}
use Rattle.sise_serializer.specs.declared.serializer.Phase.{Phase}
use Rattle.sise_serializer.specs.declared.serializer.Serializer.{Serializer}
use Rattle.sise_serializer.specs.declared.serializer.WriteError.{WriteError}
use Rattle.sise_serializer.proofs.Verdicts.{end_of, Puts, atom_alone, atom_inside, list_first, list_inside}
use Rattle.sise_tree.specs.Tree.{Node, atom, list}
use Rattle.sise_parser.specs.Reader.{part_of}
use Rattle.sise_tree_writer.specs.SerializeTree.{tree_calls, node_calls}
use Rattle.sise_tree_writer.specs.Planning.{item_call, Starts}
use Rattle.sise_tree_writer.specs.Walking.{first_answer}
use Rattle.sise_tree_writer.proofs.Made.{no_offset, made, made_offset}

module _ (s : Style) (room : ℕ) (w : Serializer) (t : ℕ) where
  abbrev empty : Written
  empty = item_in w.phase s room w [] false t

  -- where an item is accepted, so is a token of no bytes, behind the same gap
  empty_put : (a : List ℕ) (isList : Bool) {p : Piece} → Puts s w (item_call a isList t) p → end_of w p ≤ min room limit → empty.answer ≡ writer.Answer.accepted (w.position + length p.layout)
  unfolding item_call item_in place first_item first_atom first_list inner inner_as
  empty_put a false (atom_alone e f) k =
      let q : leb (w.position + 0 + 0) (min room limit) ≡ true = le-leb _ _ (omega (arith, k)) in
      ap (λ (f : Phase). (item_in f s room w [] false t).answer) e ∙ rw q
  empty_put a false (atom_inside e f) k =
      let q : leb (w.position + length (laid (gap_at w t) s w).bytes + 0) (min room limit) ≡ true = le-leb _ _ (omega (arith, k)) in
      ap (λ (f : Phase). (item_in f s room w [] false t).answer) e ∙ rw q
  empty_put a true (list_first e) k =
      let q : leb (w.position + 0 + 0) (min room limit) ≡ true = le-leb _ _ (omega (arith, k)) in
      ap (λ (f : Phase). (item_in f s room w [] false t).answer) e ∙ rw q
  empty_put a true (list_inside e) k =
      let q : leb (w.position + length (laid (gap_at w t) s w).bytes + 0) (min room limit) ≡ true = le-leb _ _ (omega (arith, k)) in
      ap (λ (f : Phase). (item_in f s room w [] false t).answer) e ∙ rw q

  empty_at : (a : List ℕ) (isList : Bool) {o : ℕ} → (step s room w (item_call a isList t)).answer ≡ writer.Answer.accepted o → empty.answer ≡ writer.Answer.accepted o
  empty_at a isList e =
      let m = made s room w (item_call a isList t) e in
      empty_put a isList m.its m.within ∙ ap writer.Answer.accepted (sym (made_offset s room w (item_call a isList t) e))

  -- so its plan has the offset
  pub planned_starts : {p : Planned} → Fits s room w [] empty p → Starts s room w t p.placed.offset
  planned_starts f a isList o e = let q = sym (empty_at a isList e) ∙ ap (λ (d : Written). d.answer) f.done in cc

  -- and where it is refused, every item is
  pub refused_starts : {r : ℕ} (x : WriteError) → empty ≡ refuse (error_number x) w → Starts s room w t r
  refused_starts x f a isList o e = no_offset (sym (ap (λ (d : Written). d.answer) f) ∙ empty_at a isList e)

-- a tree's first call is such an item
pub tree_starts : (s : Style) (room : ℕ) (w : Serializer) (text : List ℕ) (t : ℕ) (n : Node) {o r : ℕ} → first_answer s room w (tree_calls text t n) ≡ writer.Answer.accepted o → Starts s room w t r → r ≡ o
unfolding node_calls first_answer item_call
tree_starts s room w text t (atom k p n) e h = h (part_of text p n) false _ e
tree_starts s room w text t (list c) e h = h [] true _ e
