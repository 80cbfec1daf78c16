-- The bounds that a sound record has, from its test and back.
-- Assumes nothing.
use Prim.Native.Nat.{◌+◌, ◌*◌, ◌≤◌, ◌<◌}
use native.Mathlib.Nat.{mul-le-mul}
use native.Mathlib.Omega.{arith}
use mathlib.Core.Path.{◌≡◌, sym, ap, ◌∙◌}
use mathlib.Core.Bool.{true, false, ◌&&◌}
use lib.Dec.{leb}
use borrow.Author.Tests.{le-leb, leb-true}
use Rattle.sise_serializer.specs.Serializer.{limit, lists_fit, last_break, is_sound}
use Rattle.sise_serializer.specs.Parts.{Small}
use Rattle.sise_serializer.specs.declared.serializer.Phase.{Phase}
use Rattle.sise_serializer.specs.declared.serializer.Phase.TheVariants.{Beginning, Writing, Finished, Done}
use Rattle.sise_serializer.specs.declared.serializer.Serializer.{Serializer}
use Rattle.sise_util.proofs.Ranges.{split, and_first, and_second}

-- the tests but the last
pub record Checked (w : Serializer) : Type 0 where
  pub place : w.position ≤ limit
  pub line : w.line_len ≤ w.position
  pub depth : w.lists ≤ w.position
  pub broken : w.broken ≤ w.lists
  pub opens : lists_fit w.phase w.lists ≡ true
  pub gaps : w.spaces ≤ w.position
  pub lines : w.breaks ≤ w.position + last_break w.phase

pub record Sound (w : Serializer) : Type 0 where
  pub checked : Checked w
  pub steps : w.indents ≤ w.position * (w.position + 1)

pub last-small : (p : Phase) → last_break p ≤ 1
last-small Beginning = omega arith
last-small Writing = omega arith
last-small Finished = omega arith
last-small Done = omega arith

module _ (w : Serializer) where
  pub sound : is_sound w ≡ true → Sound w
  unfolding is_sound
  sound h =
      let t8 = leb w.indents (w.position * (w.position + 1)) in
      let t7 = leb w.breaks (w.position + last_break w.phase) in
      let t6 = leb w.spaces w.position in
      let t5 = lists_fit w.phase w.lists in
      let t4 = leb w.broken w.lists in
      let t3 = leb w.lists w.position in
      let t2 = leb w.line_len w.position in
      let h2 = and_second (leb w.position limit) (t2 && (t3 && (t4 && (t5 && (t6 && (t7 && t8)))))) h in
      let h3 = and_second t2 (t3 && (t4 && (t5 && (t6 && (t7 && t8))))) h2 in
      let h4 = and_second t3 (t4 && (t5 && (t6 && (t7 && t8)))) h3 in
      let h5 = and_second t4 (t5 && (t6 && (t7 && t8))) h4 in
      let h6 = and_second t5 (t6 && (t7 && t8)) h5 in
      let h7 = and_second t6 (t7 && t8) h6 in
      record {
        checked = record {
          place = leb-true _ _ (and_first (leb w.position limit) (t2 && (t3 && (t4 && (t5 && (t6 && (t7 && t8)))))) h);
          line = leb-true _ _ (and_first t2 (t3 && (t4 && (t5 && (t6 && (t7 && t8))))) h2);
          depth = leb-true _ _ (and_first t3 (t4 && (t5 && (t6 && (t7 && t8)))) h3);
          broken = leb-true _ _ (and_first t4 (t5 && (t6 && (t7 && t8))) h4);
          opens = and_first t5 (t6 && (t7 && t8)) h5;
          gaps = leb-true _ _ (and_first t6 (t7 && t8) h6);
          lines = leb-true _ _ (and_first t7 t8 h7);
        };
        steps = leb-true _ _ (and_second t7 t8 h7);
      }

  pub unsound : (Sound w → ⊥) → false ≡ is_sound w
  unsound f = split (is_sound w) (λ e. absurd (f (sound e))) (λ e. sym e)

  -- after the other tests the last one decides
  pub checked_sound : Checked w → leb w.indents (w.position * (w.position + 1)) ≡ is_sound w
  unfolding is_sound
  checked_sound k =
      simp (le-leb _ _ k.place, le-leb _ _ k.line, le-leb _ _ k.depth, le-leb _ _ k.broken, k.opens, le-leb _ _ k.gaps, le-leb _ _ k.lines)

  pub writing_lists : is_sound w ≡ true → w.phase ≡ Writing → 0 < w.lists
  writing_lists h e = leb-true 1 w.lists (ap (λ (p : Phase). lists_fit p w.lists) (sym e) ∙ (sound h).checked.opens)

  pub small : is_sound w ≡ true → Small w
  small h =
      let s = sound h in
      let x = last-small w.phase in
      let p : w.position + 1 ≤ limit + 1 = omega arith in
      let y = mul-le-mul s.checked.place p in
      record { place = omega arith; line = omega arith; depth = omega arith; gaps = omega arith; lines = omega arith; steps = omega arith }
