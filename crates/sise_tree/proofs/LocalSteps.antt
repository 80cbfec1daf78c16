-- How the checks go on from node to node, as the code takes them.
-- Assumes nothing.
use Prim.Native.Nat.{ℕ, zero, suc, ◌+◌, ◌-◌, ◌/◌, ◌≤◌, ◌<◌}
use native.Mathlib.Omega.{arith}
use mathlib.Core.Path.{◌≡◌, refl}
use mathlib.Core.Bool.{true, false, cond}
use mathlib.Core.List.{List}
use lib.Dec.{eqb}
use lib.ListN.{length}
use borrow.Author.Tests.{lt-ltb, le-ltb, le-leb, lt-leb, ne_eqb}
use Rattle.sise_tree.specs.Tree.{kind, first, second, span, sits, linked, fills, fills_in, good}
use Rattle.sise_tree.specs.Parts.{good_in}

pub fills_outside : (words : List ℕ) (p c i e : ℕ) → length words / 4 < e → fills_in words p c i e ≡ false
unfolding fills_in
fills_outside words p c i e h = rw (lt-leb e (length words / 4) h)

module _ (words : List ℕ) (p e : ℕ) (within : e ≤ length words / 4) where
  fills_within : (c i : ℕ) → fills_in words p c i e ≡ fills words p c i e
  unfolding fills_in
  fills_within c i = rw (le-leb e (length words / 4) within)

  pub fills_done : (c i : ℕ) → c ≤ 0 → fills_in words p c i e ≡ eqb i e
  unfolding fills
  fills_done zero i z = fills_within zero i
  fills_done (suc c) i z = absurd (omega arith)

  pub fills_past : (c i : ℕ) → 0 < c → e ≤ i → fills_in words p c i e ≡ false
  unfolding fills
  fills_past zero i z h = absurd (omega arith)
  fills_past (suc c) i z h = rw (fills_within (suc c) i, le-ltb i e h)

  pub fills_stuck : (c i : ℕ) → 0 < c → i < e → span words i ≡ 0 → fills_in words p c i e ≡ false
  unfolding fills
  fills_stuck zero i z h s = absurd (omega arith)
  fills_stuck (suc c) i z h s = rw (fills_within (suc c) i, lt-ltb i e h, s)

  pub fills_unlinked : (c i : ℕ) → 0 < c → i < e → (span words i ≡ 0 → ⊥) → linked words p i ≡ false → fills_in words p c i e ≡ false
  unfolding fills
  fills_unlinked zero i z h s t = absurd (omega arith)
  fills_unlinked (suc c) i z h s t = rw (fills_within (suc c) i, lt-ltb i e h, le-leb 1 (span words i) (omega arith), t)

  -- w is the span that the code has read
  pub fills_step :
      (c i : ℕ) {w : ℕ} → w ≡ span words i → 0 < c → i < e → (span words i ≡ 0 → ⊥) → linked words p i ≡ true
      → fills_in words p (c - 1) (i + w) e ≡ fills_in words p c i e
  unfolding fills
  fills_step zero i r z h s t = absurd (omega arith)
  fills_step (suc c) i r z h s t =
      let q : suc c - 1 ≡ c = omega arith in
      rw (r, q, fills_within c (i + span words i), fills_within (suc c) i, lt-ltb i e h, le-leb 1 (span words i) (omega arith), t)

pub linked_none : (words : List ℕ) (p i : ℕ) → (kind words i ≡ 0 → ⊥) → linked words p i ≡ true
unfolding linked
linked_none words p i h = rw (ne_eqb (kind words i) 0 h, linked)

-- the first node stands at 0
pub linked_first : (words : List ℕ) (i : ℕ) → cond (eqb (kind words i) 0) (eqb (second words i) i) true ≡ linked words 0 i
unfolding linked
linked_first words i = let away : i - 0 ≡ i = omega arith in rw away refl

pub good_outside : (l words : List ℕ) (i : ℕ) → length words / 4 ≤ i → good_in l words i ≡ false
unfolding good_in
good_outside l words i h = rw (le-ltb i (length words / 4) h)

pub good_within : (l words : List ℕ) (i : ℕ) → i < length words / 4 → good_in l words i ≡ good l words i
unfolding good_in
good_within l words i within = rw (lt-ltb i (length words / 4) within)

module _ (l words : List ℕ) (i : ℕ) where
  pub good_list : kind words i ≡ 0 → good l words i ≡ fills_in words i (first words i) (i + 1) (i + span words i)
  unfolding good
  good_list k = rw (k, good)

  -- kinds are not compared yet
  pub good_atom : (kind words i ≡ 0 → ⊥) → span words i ≡ 1 → good l words i ≡ sits l (kind words i) (first words i) (second words i)
  unfolding good
  good_atom k s = rw (ne_eqb (kind words i) 0 k, good, s)

  pub good_long : (kind words i ≡ 0 → ⊥) → (span words i ≡ 1 → ⊥) → good l words i ≡ false
  unfolding good
  good_long k s = rw (ne_eqb (kind words i) 0 k, good, ne_eqb (span words i) 1 s)
