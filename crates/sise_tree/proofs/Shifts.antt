-- "A subtree is the part of the table from its node": node i of a table is the first node of the part from it on, and is tested there as in the whole.
-- Assumes nothing.
use Prim.Native.Nat.{ℕ, zero, suc, ◌+◌, ◌-◌, ◌*◌, ◌/◌, ◌<◌}
use native.Mathlib.Nat.{add-zero}
use native.Mathlib.Omega.{arith}
use mathlib.Core.Path.{◌≡◌, sym, ap, ◌∙◌}
use mathlib.Core.List.{List}
use lib.Dec.{leb, ltb, eqb}
use lib.ListN.{length, get_or, drop, length-drop}
use lib.Seq.{get_or-drop}
use borrow.Author.Tests.{ltb-true, ltb-false, leb-true, leb-false, eqb-true, eqb-false, lt-ltb, le-ltb, le-leb, lt-leb, eq-eqb, ne_eqb}
use Rattle.sise_util.proofs.Ranges.{split}
use Rattle.sise_tree.specs.Tree.{kind, first, second, span, linked, fills, fills_in, good}
use Rattle.sise_tree.specs.Parts.{good_in, atom_holds_at}

eqb_add : (i j e : ℕ) → eqb j e ≡ eqb (i + j) (i + e)
eqb_add i j e =
    split (eqb j e) (λ h. rw h (sym (eq-eqb (i + j) (i + e) (omega (arith, eqb-true j e h)))))
    (λ h. rw h (sym (ne_eqb (i + j) (i + e) (λ (z : i + j ≡ i + e). eqb-false j e h (omega (arith, z))))))

ltb_add : (i j e : ℕ) → ltb j e ≡ ltb (i + j) (i + e)
ltb_add i j e =
    split (ltb j e) (λ h. rw h (sym (lt-ltb (i + j) (i + e) (omega (arith, ltb-true j e h)))))
    (λ h. rw h (sym (le-ltb (i + j) (i + e) (omega (arith, ltb-false j e h)))))

module _ (words : List ℕ) (i : ℕ) where
  abbrev part : List ℕ
  part = drop (4 * i) words

  word_at : (m n : ℕ) → 4 * i + m ≡ n → get_or part m 0 ≡ get_or words n 0
  word_at m n e = get_or-drop (4 * i) words m 0 ∙ ap (λ (k : ℕ). get_or words k 0) e

  kind_at : (j : ℕ) → kind part j ≡ kind words (i + j)
  kind_at j = word_at (4 * j) (4 * (i + j)) (omega arith)

  first_at : (j : ℕ) → first part j ≡ first words (i + j)
  first_at j = word_at (4 * j + 1) (4 * (i + j) + 1) (omega arith)

  second_at : (j : ℕ) → second part j ≡ second words (i + j)
  second_at j = word_at (4 * j + 2) (4 * (i + j) + 2) (omega arith)

  span_at : (j : ℕ) → span part j ≡ span words (i + j)
  span_at j = word_at (4 * j + 3) (4 * (i + j) + 3) (omega arith)

  linked_at : (p j : ℕ) → linked part p j ≡ linked words (i + p) (i + j)
  unfolding linked
  linked_at p j =
      let away : i + j - (i + p) ≡ j - p = omega arith in
      rw (kind_at j, second_at j, away)

  fills_at : (p c j e : ℕ) → fills part p c j e ≡ fills words (i + p) c (i + j) (i + e)
  unfolding fills
  fills_at p zero j e = eqb_add i j e
  fills_at p (suc c) j e =
      let on : i + (j + span words (i + j)) ≡ i + j + span words (i + j) = omega arith in
      rw (ltb_add i j e, span_at j, linked_at p j, fills_at p c (j + span words (i + j)) e, on)

  module _ (within : i < length words / 4) where
    nodes_left : length part / 4 ≡ length words / 4 - i
    nodes_left = omega (arith, length-drop (4 * i) words, within)

    leb_left : (e : ℕ) → leb e (length part / 4) ≡ leb (i + e) (length words / 4)
    leb_left e =
        split (leb (i + e) (length words / 4))
        (λ h. rw h (le-leb e (length part / 4) (omega (arith, nodes_left, leb-true (i + e) (length words / 4) h))))
        (λ h. rw h (lt-leb e (length part / 4) (omega (arith, nodes_left, within, leb-false (i + e) (length words / 4) h))))

    pub fills_in_lem : (p c j e : ℕ) → fills_in part p c j e ≡ fills_in words (i + p) c (i + j) (i + e)
    unfolding fills_in
    fills_in_lem p c j e = rw (leb_left e, fills_at p c j e)

    -- the first node of the part
    pub good_at : (text : List ℕ) → good_in text part 0 ≡ good text words i
    unfolding good_in good
    good_at text =
        let k = kind_at 0 ∙ ap (kind words) (add-zero i) in
        let x = first_at 0 ∙ ap (first words) (add-zero i) in
        let y = second_at 0 ∙ ap (second words) (add-zero i) in
        let s = span_at 0 ∙ ap (span words) (add-zero i) in
        let end : i + (0 + span words i) ≡ i + span words i = omega arith in
        rw (lt-ltb 0 (length part / 4) (omega (arith, nodes_left, within)), k, x, y, s, fills_in_lem 0 (first words i) (0 + 1) (0 + span words i), add-zero i, end)

    pub atom_at_lem : (text : List ℕ) → atom_holds_at text part 0 ≡ atom_holds_at text words i
    unfolding atom_holds_at
    atom_at_lem text = rw (kind_at 0 ∙ ap (kind words) (add-zero i), first_at 0 ∙ ap (first words) (add-zero i), second_at 0 ∙ ap (second words) (add-zero i))
