-- A tree's calls and a finish behind them: they fit if the tree's do and the finish then does, and what they write is written one after the other.
-- Assumes nothing.
use Prim.Native.Nat.{ℕ, ◌+◌, ◌≤◌}
use native.Mathlib.Omega.{arith}
use mathlib.Core.Path.{◌≡◌, refl, sym, ap, ◌∙◌}
use mathlib.Core.Bool.{Bool, true, false, ◌&&◌, false≢true}
use Rattle.std.specs.Prelude.{Option, Some, None, Ok, Err}
use mathlib.Core.List.{List, [], ◌∷◌, ◌++◌, append-nil}
use lib.ListN.{length, replicate, length-replicate}
use Rattle.sise_util.proofs.Ranges.{split, and_first, and_second}
use Rattle.sise_parser.specs.Reader.{part_of}
use Rattle.sise_serializer.specs.Bytes.{pasted}
use Rattle.sise_serializer.specs.Serializer as writer
use Rattle.sise_serializer.specs.Serializer.{Style, Piece, is_sound, last}
use Rattle.sise_serializer.specs.Parts.{break_bytes}
use Rattle.sise_serializer.proofs.Verdicts.{Puts, text_ended}
use Rattle.sise_serializer.specs.declared.serializer.Serializer.{Serializer}
use Rattle.sise_serializer.specs.Calls.{largest, Call, put_atom_call, begin_list_call, end_list_call, finish_call, is_accepted, step, run}
use Rattle.sise_tree.specs.Tree.{Node, atom, list}
use Rattle.sise_tree.specs.Answers.{answered}
use Rattle.sise_tree_writer.specs.Answers.{put_as}
use Rattle.sise_tree_writer.specs.SerializeTree.{node_calls, row_calls, tree_calls, fits, Writes, first_offset, written, write_tree, DoesMeasure}
use Rattle.sise_tree_writer.specs.Writing.{text_calls, calls_of}
use Rattle.sise_tree_writer.specs.Planning.{Plans}
use Rattle.sise_tree_writer.specs.Walking.{after, first_answer}
use Rattle.sise_tree_writer.specs.declared.serialize.WriteTreeError.{WriteTreeError}
use Rattle.sise_tree_writer.specs.declared.serialize.WriteTreeError.TheVariants.{NoRoom}
use Rattle.sise_tree_writer.specs.Answers.{TreeWrote}
use Rattle.sise_tree_writer.proofs.Made.{Made, made}
use Rattle.sise_tree_writer.proofs.CallLaws.{fits_first, accepted_keeps, run_after, after_sound}
use Rattle.sise_tree_writer.proofs.Measuring.{refused_measures, Tested, fails, passes, tested, first_offset_lem, offset_first, written_on, written_off, fits_measures, Accepted, tree_accepted}

-- ---- one call more

module _ (s : Style) (room : ℕ) (f : Call) where
  after_more : (w : Serializer) (cs : List Call) → after s room w (cs ++ f ∷ []) ≡ (step s room (after s room w cs) f).serializer
  unfolding after
  after_more w [] = refl
  after_more w (c ∷ cs) = after_more (step s room w c).serializer cs

  first_more : (w : Serializer) (cs : List Call) {o : ℕ} → first_answer s room w cs ≡ writer.Answer.accepted o → first_answer s room w (cs ++ f ∷ []) ≡ writer.Answer.accepted o
  unfolding first_answer
  first_more w [] {o} e = let z : ◌≡◌ {A = ℕ} 0 1 = cc in absurd (omega arith)
  first_more w (c ∷ cs) e = e

  fits_more : (w : Serializer) (cs : List Call) → fits s room w (cs ++ f ∷ []) ≡ fits s room w cs && is_accepted (step s room (after s room w cs) f).answer
  unfolding fits after
  fits_more w [] = last-true (is_accepted (step s room w f).answer)
    where
      last-true : (x : Bool) → x && true ≡ x
      last-true true = refl
      last-true false = refl
  fits_more w (c ∷ cs) = split (is_accepted (step s room w c).answer) (λ y. rw y (fits_more (step s room w c).serializer cs)) (λ y. rw y)

-- the buffer after one call more
run_more : (s : Style) (w : Serializer) (cs : List Call) (f : Call) (b : List ℕ) → fits s (length b) w cs ≡ true
    → (run s b w (cs ++ f ∷ [])).buffer ≡ pasted (run s b w cs).buffer (after s (length b) w cs).position (step s (length b) (after s (length b) w cs) f).bytes
unfolding run after
run_more s w [] f b y = refl
run_more s w (c ∷ cs) f b y =
    let (o, e, more) = fits_first s (length b) w c cs y in
    let long = accepted_keeps s b w c e in
    let v = (step s (length b) w c).serializer in
    let m = pasted b w.position (step s (length b) w c).bytes in
    run_more s v cs f m (rw long more)
    ∙ ap (λ (k : ℕ). pasted (run s m v cs).buffer (after s k v cs).position (step s k (after s k v cs) f).bytes) long

-- ---- the finish behind a tree

-- a tree has a first call
pub tree_begun : (text : List ℕ) (t : ℕ) (n : Node) → (c : Call) × (cs : List Call) × (tree_calls text t n ≡ c ∷ cs)
unfolding node_calls
tree_begun text t (atom k p m) = (put_atom_call (part_of text p m) t, [], refl)
tree_begun text t (list c) = (begin_list_call t, row_calls text largest t c ++ end_list_call ∷ [], refl)

-- which answers, if all fit
some_answer : (s : Style) (b : List ℕ) (w : Serializer) (text : List ℕ) (t : ℕ) (n : Node) → fits s (length b) w (tree_calls text t n) ≡ true
    → (o : ℕ) × (first_offset (run s b w (tree_calls text t n)).answers ≡ answered o)
unfolding first_answer
some_answer s b w text t n y =
    let (c, cs, z) = tree_begun text t n in
    let (o, e, more) = fits_first s (length b) w c cs (rw z at y) in
    (o, ap (λ (l : List Call). first_offset (run s b w l).answers) z ∙ first_offset_lem s b w (c ∷ cs) e)

module _ (s : Style) (room : ℕ) (w : Serializer) (text words : List ℕ) (t : ℕ) {r : TreeWrote}
    (measured : (b : List ℕ) → length b ≡ room → DoesMeasure (write_tree s b w text words (tree_calls text t)) r) where
  abbrev block : List ℕ
  block = replicate room 0

  block_long : length block ≡ room
  block_long = length-replicate {A = ℕ} room 0

  module _ {o : ℕ} (e : put_as r.answer ≡ answered o) where
    taken : Accepted s block w text words (tree_calls text t)
    taken = tree_accepted s block w text words (tree_calls text t) (sym (measured block block_long).answer ∙ e)

    abbrev calls : List Call
    calls = tree_calls text t taken.node

    tree_fits : fits s room w calls ≡ true
    tree_fits = rw block_long at taken.fit

    -- the record after the tree
    tree_after : r.serializer ≡ after s room w calls
    tree_after =
        (measured block block_long).serializer ∙ ap (λ (d : Writes). d.serializer) taken.same
        ∙ rw block_long at (run_after s w calls block taken.fit)

    pub tree_sound : is_sound r.serializer ≡ true
    tree_sound = ap is_sound tree_after ∙ after_sound s room w calls taken.sound

    tree_first : first_answer s room w calls ≡ writer.Answer.accepted o
    tree_first =
        rw block_long at (offset_first s block w calls (sym (ap (λ (d : Writes). d.answer) taken.same) ∙ sym (measured block block_long).answer ∙ e))

    module _ (wished : Bool) where
      abbrev whole : List Call
      whole = text_calls text t wished taken.node

      -- the finish has no room
      pub text_full : is_accepted (step s room r.serializer (finish_call wished)).answer ≡ false → (b : List ℕ) → length b ≡ room
          → DoesMeasure (write_tree s b w text words (text_calls text t wished)) (record { serializer = w; answer = Err NoRoom })
      unfolding text_calls
      text_full plan b long =
          let f : fits s room w whole ≡ false = fits_more s room (finish_call wished) w calls ∙ rw (tree_fits, (rw tree_after at plan)) in
          rw (taken.made b (text_calls text t wished), written_off s b w whole (rw long f)) (refused_measures b w NoRoom refl)

      -- or it has
      pub text_fits : {v : Serializer} → Plans (finish_call wished) s room r.serializer (Ok v) → (b : List ℕ) → length b ≡ room
          → DoesMeasure (write_tree s b w text words (text_calls text t wished)) (record { serializer = v; answer = Ok o })
      unfolding text_calls
      text_fits {v} plan b long =
          let ahead = rw tree_after at plan in
          let f : fits s room w whole ≡ true = fits_more s room (finish_call wished) w calls ∙ rw (tree_fits, ahead.1) in
          let e : v ≡ after s (length b) w whole = ahead.0 ∙ sym (after_more s room (finish_call wished) w calls) ∙ rw long refl in
          rw (taken.made b (text_calls text t wished), e) (fits_measures s b w whole (rw long f) (rw long (first_more s room (finish_call wished) w calls tree_first)))

      -- with another refusal it would not be planned
      pub finish_off : {x : WriteTreeError} → Plans (finish_call wished) s room r.serializer (Err x) → (b : List ℕ) → length b ≡ room
          → DoesMeasure (write_tree s b w text words (text_calls text t wished)) (record { serializer = w; answer = Err x })
      finish_off plan b long = rw plan.0 (text_full plan.1 b long)

  -- the tree has no room, or is refused before: so is the whole text
  pub text_none : (wished : Bool) → ((o : ℕ) → put_as r.answer ≡ answered o → ⊥) → (b : List ℕ) → length b ≡ room → DoesMeasure (write_tree s b w text words (text_calls text t wished)) r
  unfolding text_calls
  text_none wished never b long = of (tested s w text words)
    where
      of : Tested s w text words → DoesMeasure (write_tree s b w text words (text_calls text t wished)) r
      of (fails k lt q) = rw (q b (text_calls text t wished)) (rw (q b (tree_calls text t)) at (measured b long))
      of (passes n d a h v q) =
          let m : DoesMeasure (written s b w (tree_calls text t n)) r = rw (q b (tree_calls text t)) at (measured b long) in
          split (fits s (length b) w (tree_calls text t n))
          (λ y.
          let (o, e) = some_answer s b w text t n y in
          absurd (never o (m.answer ∙ ap (λ (d : Writes). d.answer) (written_on s b w (tree_calls text t n) y) ∙ e)))
          (λ y.
          let f : fits s (length b) w (tree_calls text t n ++ finish_call wished ∷ []) ≡ false = fits_more s (length b) (finish_call wished) w (tree_calls text t n) ∙ rw y in
          rw (q b (text_calls text t wished), written_off s b w (tree_calls text t n ++ finish_call wished ∷ []) f) (rw (written_off s b w (tree_calls text t n) y) at m))

  -- with a finish or without
  pub refused_none : (finish : Option Bool) → ((o : ℕ) → put_as r.answer ≡ answered o → ⊥) → (b : List ℕ) → length b ≡ room → DoesMeasure (write_tree s b w text words (calls_of text t finish)) r
  refused_none None never b long = measured b long
  refused_none (Some wished) never b long = text_none wished never b long

-- ---- written

-- the tree of a whole text that fits, fits
pub text_tree : (s : Style) (room : ℕ) (w : Serializer) (text : List ℕ) (t : ℕ) (wished : Bool) (n : Node) → fits s room w (text_calls text t wished n) ≡ true
    → fits s room w (tree_calls text t n) ≡ true
unfolding text_calls
text_tree s room w text t wished n f = and_first (fits s room w (tree_calls text t n)) _ (sym (fits_more s room (finish_call wished) w (tree_calls text t n)) ∙ f)

-- an accepted answer has an offset
pub accepted_as : (a : writer.Answer) → is_accepted a ≡ true → (o : ℕ) × (a ≡ writer.Answer.accepted o)
accepted_as (writer.Answer.accepted o) e = (o, refl)
accepted_as (writer.Answer.refused n) e = absurd (false≢true e)

-- the tree written, and the finish behind it
module _ (s : Style) (b : List ℕ) (w : Serializer) (cs : List Call) (wished : Bool) (f : fits s (length b) w (cs ++ finish_call wished ∷ []) ≡ true) where
  last_made : Made s (length b) (after s (length b) w cs) (finish_call wished) (step s (length b) (after s (length b) w cs) (finish_call wished))
  last_made =
      let e = sym (fits_more s (length b) (finish_call wished) w cs) ∙ f in
      let (o, k) = accepted_as (step s (length b) (after s (length b) w cs) (finish_call wished)).answer (and_second (fits s (length b) w cs) _ e) in
      made s (length b) (after s (length b) w cs) (finish_call wished) k

  last-piece : {v : Serializer} {p : Piece} → Puts s v (finish_call wished) p → p ≡ last s v wished
  last-piece (text_ended e) = refl

  -- the line break, if wished, has room there
  pub text_room : (after s (length b) w cs).position + length (break_bytes wished s.line_break) ≤ length b
  unfolding last
  text_room = let k = rw (last-piece last_made.its) at last_made.within in omega arith

  pub text_written : {mid now : List ℕ} {at : ℕ} → at ≡ (after s (length b) w cs).position → mid ≡ (run s b w cs).buffer
      → now ≡ pasted mid at (break_bytes wished s.line_break) → now ≡ (run s b w (cs ++ finish_call wished ∷ [])).buffer
  unfolding last
  text_written z e q =
      let k = and_first (fits s (length b) w cs) _ (sym (fits_more s (length b) (finish_call wished) w cs) ∙ f) in
      q ∙ rw (z, e) (sym (run_more s w cs (finish_call wished) b k ∙ rw (last_made.is, last-piece last_made.its) (ap (pasted (run s b w cs).buffer (after s (length b) w cs).position) (append-nil _))))
