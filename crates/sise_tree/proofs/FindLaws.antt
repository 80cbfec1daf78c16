-- The way of a lookup, turn by turn: a turn of the path looks at a list and passes the children before the wanted one, and where the code stands in the table,
-- with the children left to step past and what is left of the path, the answer is the whole path's.
-- Assumes nothing.
use Prim.Native.Nat.{ℕ, zero, suc, ◌+◌, ◌-◌, ◌/◌, ◌≤◌, ◌<◌}
use native.Mathlib.Numerals.{add-one}
use native.Mathlib.Omega.{arith}
use mathlib.Core.Path.{◌≡◌, refl, ap, ◌∙◌}
use mathlib.Core.Bool.{true, false}
use mathlib.Core.List.{List, [], ◌∷◌}
use lib.ListN.{length, get_or, drop, drop_of_length-le}
use lib.Seq.{drop-cons}
use borrow.Author.Tests.{lt-ltb, le-ltb, ne_eqb}
use Rattle.std.specs.Prelude.{Option, Some, None}
use Rattle.sise_tree.specs.Tree.{kind, first, span}
use Rattle.sise_tree.specs.ParseTree.{longest}
use Rattle.sise_tree.specs.FindPath.{Way, looks, stops, reads, passing, has_child, follow, found, refused, looked_up, find_path, past, Passes}

module _ (words : List ℕ) {i : ℕ} where
  pub read_inside : (w : Way) → i < length words / 4 → reads words i w ≡ looks i w
  read_inside w h = rw (lt-ltb i (length words / 4) h)

  pub read_outside : (w : Way) → length words / 4 ≤ i → reads words i w ≡ stops 15
  read_outside w h = rw (le-ltb i (length words / 4) h)

  follow_outside : (path : List ℕ) → length words / 4 ≤ i → follow words i path ≡ stops 15
  unfolding follow
  follow_outside [] h = read_outside _ h
  follow_outside (k ∷ path) h = read_outside _ h

  -- children are left, and node i is the next
  passing_stuck : (c : ℕ) (on : ℕ → Way) → i < length words / 4 → 0 < c → span words i ≡ 0 → passing words c i on ≡ looks i (stops 15)
  unfolding passing
  passing_stuck zero on h some z = absurd (omega arith)
  passing_stuck (suc c) on h some z = rw (z, passing) (read_inside _ h)

  pub passing_one :
      (c : ℕ) (on : ℕ → Way) → i < length words / 4 → 0 < c → (span words i ≡ 0 → ⊥)
      → passing words c i on ≡ looks i (passing words (c - 1) (i + span words i) on)
  unfolding passing
  passing_one zero on h some z = absurd (omega arith)
  passing_one (suc c) on h some z =
      let e : suc c - 1 ≡ c = omega arith in
      rw (ne_eqb (span words i) 0 z, passing, e) (read_inside _ h)

  -- none is left, and the path goes on with k
  pub follow_none : (k : ℕ) (path : List ℕ) → i < length words / 4 → has_child words i k ≡ false → follow words i (k ∷ path) ≡ looks i (stops 16)
  unfolding follow
  follow_none k path h e = rw (e, follow) (read_inside _ h)

  pub follow_child :
      (k : ℕ) (path : List ℕ) → i < length words / 4 → has_child words i k ≡ true
      → follow words i (k ∷ path) ≡ looks i (passing words k (i + 1) (λ j. follow words j path))
  unfolding follow
  follow_child k path h e = rw (e, follow) (read_inside _ h)

-- from node i on, so many of the k children are passed, and the next is node `at`
pub record Passing (words : List ℕ) (i k at done : ℕ) : Type 0 where
  pub forward : i + done ≤ at
  same : (n : ℕ) (on : ℕ → Way) → looked_up n (passing words k i on) ≡ looked_up (n + done) (passing words (k - done) at on)

module _ (words : List ℕ) (i k : ℕ) where
  pub passing_none : Passing words i k i 0
  passing_none = record { forward = omega arith; same = λ n on. let z : n + 0 ≡ n = omega arith in let y : k - 0 ≡ k = omega arith in rw (z, y) refl }

module _ {words : List ℕ} {i k at done : ℕ} (p : Passing words i k at done) where
  pub passing_end : done ≤ k → k ≤ done → Passes words i k (Some at)
  unfolding passing
  passing_end u v n on =
      let y : k - done ≡ 0 = omega arith in
      let z : n + done ≡ n + k = omega arith in
      p.same n on ∙ ap (λ (c : ℕ). looked_up (n + done) (passing words c at on)) y ∙ ap (λ (m : ℕ). looked_up m (on at)) z

  module _ (more : done < k) where
    pub passing_out : length words / 4 ≤ at → Passes words i k None
    unfolding passing looked_up
    passing_out h n on = p.same n on ∙ of (k - done) (omega arith)
      where
        of : (c : ℕ) → 0 < c → looked_up (n + done) (passing words c at on) ≡ refused 15
        of zero z = absurd (omega arith)
        of (suc c) z = ap (looked_up (n + done)) (read_outside words _ h)

    module _ (within : at < length words / 4) where
      pub passing_stop : span words at ≡ 0 → Passes words i k None
      unfolding looked_up
      passing_stop z n on =
          p.same n on ∙ ap (looked_up (n + done)) (passing_stuck words (k - done) on within (omega arith) z)

      pub passing_on : (span words at ≡ 0 → ⊥) → Passing words i k (at + span words at) (done + 1)
      unfolding looked_up
      passing_on z =
          record {
            forward = omega (arith, p.forward);
            same = λ n on.
                let less : k - (done + 1) ≡ k - done - 1 = omega arith in
                let count : n + (done + 1) ≡ n + done + 1 = omega arith in
                p.same n on
                ∙ ap (looked_up (n + done)) (passing_one words (k - done) on within (omega arith) z)
                ∙ rw (less, count) refl;
          }

-- the code is to look at node `at` next, which is the last of `seen` nodes looked at, and has gone k steps of the path
pub record Going (words text path : List ℕ) (at seen k : ℕ) : Type 0 where
  pub some : 1 ≤ seen
  pub early : seen ≤ at + 1
  same : find_path words text path ≡ looked_up (seen - 1) (follow words at (drop k path))

module _ (words text path : List ℕ) where
  pub too_long : longest < length text → find_path words text path ≡ refused 13
  unfolding find_path
  too_long h = rw (lt-ltb longest (length text) h)

  pub going_root : length text ≤ longest → Going words text path 0 1 0
  unfolding find_path
  going_root h = record { some = omega arith; early = omega arith; same = rw (le-ltb longest (length text) h) }

module _ {words text path : List ℕ} {at seen k : ℕ} (g : Going words text path at seen k) where
  pub going_outside : length words / 4 ≤ at → find_path words text path ≡ refused 15
  unfolding looked_up
  going_outside h = g.same ∙ ap (looked_up (seen - 1)) (follow_outside words (drop k path) h)

  module _ (within : at < length words / 4) where
    pub going_found : length path ≤ k → find_path words text path ≡ found at seen
    unfolding follow looked_up
    going_found end =
        let z : seen - 1 + 1 ≡ seen = omega (arith, g.some) in
        g.same
        ∙ ap (λ (p : List ℕ). looked_up (seen - 1) (follow words at p)) (drop_of_length-le path end)
        ∙ ap (looked_up (seen - 1)) (read_inside words _ within)
        ∙ ap (found at) z

    module _ (more : k < length path) where
      abbrev index : ℕ
      index = get_or path k 0

      onward : find_path words text path ≡ looked_up (seen - 1) (follow words at (index ∷ drop (k + 1) path))
      onward = g.same ∙ ap (λ (p : List ℕ). looked_up (seen - 1) (follow words at p)) (rw add-one (drop-cons path k 0 more))

      none_there : has_child words at index ≡ false → find_path words text path ≡ refused 16
      unfolding looked_up
      none_there e = onward ∙ ap (looked_up (seen - 1)) (follow_none words _ _ within e)

      -- it is an atom
      pub going_atom : (kind words at ≡ 0 → ⊥) → find_path words text path ≡ refused 16
      going_atom z = none_there (rw (ne_eqb (kind words at) 0 z))

      module _ (list : kind words at ≡ 0) where
        -- it has too few children
        pub going_none : first words at ≤ index → find_path words text path ≡ refused 16
        going_none h = none_there (rw (list, le-ltb index (first words at) h))

        -- r is the node behind the children before the one that the path leads to
        module _ (h : index < first words at) where
          reached : (r : Option ℕ) → Passes words (at + 1) index r → find_path words text path ≡ past (seen - 1 + 1) index (λ j. follow words j (drop (k + 1) path)) r
          unfolding looked_up
          reached r p =
              onward
              ∙ ap (looked_up (seen - 1)) (follow_child words _ _ within (rw (list, lt-ltb index (first words at) h)))
              ∙ p (seen - 1 + 1) (λ j. follow words j (drop (k + 1) path))

          pub going_stop : {r : Option ℕ} → Passes words (at + 1) index r → r ≡ None → find_path words text path ≡ refused 15
          going_stop {r} p z = reached r p ∙ ap (past (seen - 1 + 1) index (λ j. follow words j (drop (k + 1) path))) z

          pub going_on : {r : Option ℕ} {j : ℕ} → Passes words (at + 1) index r → r ≡ Some j → at + 1 + index ≤ j → Going words text path j (seen + (1 + index)) (k + 1)
          going_on {r} {j} p z f =
              let n : seen + (1 + index) - 1 ≡ seen - 1 + 1 + index = omega (arith, g.some) in
              record {
                some = omega arith;
                early = omega (arith, g.early);
                same = rw n (reached r p ∙ ap (past (seen - 1 + 1) index (λ j. follow words j (drop (k + 1) path))) z);
              }
