-- What a lookup reads: tables that agree on the nodes looked at give the same answer, whatever their other words are, and a found node's number of nodes
-- looked at is that of its path.
-- Assumes nothing.
use Prim.Native.Nat.{ℕ, zero, suc, ◌+◌, ◌/◌, ◌≤◌, ◌<◌}
use native.Mathlib.Omega.{arith}
use mathlib.Core.Path.{◌≡◌, refl, ap}
use mathlib.Core.Bool.{cond}
use mathlib.Core.List.{List, [], ◌∷◌}
use lib.Dec.{ltb, eqb}
use lib.ListN.{length, get_or}
use borrow.Author.Tests.{le-ltb, ltb-true, eqb-false}
use Rattle.sise_util.proofs.Ranges.{split}
use Rattle.sise_tree.specs.Tree.{span}
use Rattle.sise_tree.specs.ParseTree.{longest}
use Rattle.sise_tree.specs.FindPath.{Way, looks, reads, passing, has_child, follow, Lookup, found, refused, looked_up, find_path, steps, EachLooked, SameNode, found_number, found_values}

module _ (words others : List ℕ) (size : length words / 4 ≡ length others / 4) where
  abbrev Same : Way → Type 0
  Same w = EachLooked (SameNode words others) w

  -- node i is read: the ways on are the same, if they are where it is
  reads_same : (i : ℕ) (v w : Way) → Same (reads words i v) → (SameNode words others i → Same v → v ≡ w) → reads words i v ≡ reads others i w
  reads_same i v w s on =
      split (ltb i (length words / 4))
      (λ t. let (here, more) = rw t at s in rw (← size, t) (ap (looks i) (on here more)))
      (λ f. rw (← size, f))

  passing_same : (k i : ℕ) (on to : ℕ → Way) → Same (passing words k i on) → ((j : ℕ) → Same (on j) → on j ≡ to j) → passing words k i on ≡ passing others k i to
  unfolding passing
  passing_same zero i on to s next = next i s
  passing_same (suc k) i on to s next =
      reads_same i _ _ s
      (λ here more.
      split (eqb (span words i) 0)
      (λ t. rw (← here.spans, t))
      (λ f. rw (← here.spans, f) (passing_same k (i + span words i) on to (rw f at more) next)))

  follow_same : (path : List ℕ) (i : ℕ) → Same (follow words i path) → follow words i path ≡ follow others i path
  unfolding follow
  follow_same [] i s = reads_same i _ _ s (λ here more. refl)
  follow_same (k ∷ path) i s =
      reads_same i _ _ s
      (λ here more.
      split (has_child words i k)
      (λ t. rw (← here.kinds, ← here.firsts, t) (passing_same k (i + 1) _ _ (rw t at more) (follow_same path)))
      (λ f. rw (← here.kinds, ← here.firsts, f)))

  -- tables of one size that agree on the nodes looked at, up to the node found or to the refusal, give the same answer: no other word is read
  pub unread : (text path : List ℕ) → Same (follow words 0 path) → find_path words text path ≡ find_path others text path
  unfolding find_path
  unread text path s = ap (λ (w : Way). cond (ltb longest (length text)) (refused 13) (looked_up 0 w)) (follow_same path 0 s)

-- of the text only its length is looked at
pub any_text : (words text other path : List ℕ) → length text ≤ longest → length other ≤ longest → find_path words text path ≡ find_path words other path
unfolding find_path
any_text words text other path h g = rw (le-ltb longest (length text) h, le-ltb longest (length other) g)

-- ---- the number of nodes looked at

unfound : {C : Type 0} {r j n : ℕ} → 0 < r → refused r ≡ found j n → C
unfound h e = absurd (omega (arith, ap found_number e))

module _ (words : List ℕ) (j n : ℕ) where
  reads_found : {C : Type 0} (m i : ℕ) (w : Way) → looked_up m (reads words i w) ≡ found j n → (i < length words / 4 → looked_up (m + 1) w ≡ found j n → C) → C
  unfolding looked_up
  reads_found m i w h on =
      split (ltb i (length words / 4)) (λ t. on (ltb-true i (length words / 4) t) (rw t at h)) (λ f. unfound (omega arith) (rw f at h))

  -- from node i on, after m nodes looked at, so many more are looked at up to node j, each behind the one before
  record Looked (m i count : ℕ) : Type 0 where
    number : n ≡ m + count
    forward : i + count ≤ j + 1
    within : j < length words / 4

  passing_found :
      (k m i c : ℕ) (on : ℕ → Way) → looked_up m (passing words k i on) ≡ found j n → ((m i : ℕ) → looked_up m (on i) ≡ found j n → Looked m i c) → Looked m i (k + c)
  unfolding passing looked_up
  passing_found zero m i c on h next = let l = next m i h in record { number = omega (arith, l.number); forward = omega (arith, l.forward); within = l.within }
  passing_found (suc k) m i c on h next =
      reads_found m i _ h
      (λ inside more.
      split (eqb (span words i) 0) (λ t. unfound (omega arith) (rw t at more))
      (λ f.
      let z = eqb-false (span words i) 0 f in
      let l = passing_found k (m + 1) (i + span words i) c on (rw f at more) next in
      record { number = omega (arith, l.number); forward = omega (arith, l.forward, z); within = l.within }))

  follow_found : (path : List ℕ) (m i : ℕ) → looked_up m (follow words i path) ≡ found j n → Looked m i (1 + steps path)
  unfolding follow looked_up steps
  follow_found [] m i h =
      reads_found m i _ h
      (λ inside e.
      let at : i ≡ j = ap (λ (f : Lookup). get_or (found_values f) 0 0) e in
      let count : m + 1 ≡ n = ap (λ (f : Lookup). get_or (found_values f) 1 0) e in
      record { number = omega (arith, count); forward = omega (arith, at); within = omega (arith, at) })
  follow_found (k ∷ path) m i h =
      reads_found m i _ h
      (λ inside more.
      split (has_child words i k)
      (λ t.
      let l = passing_found k (m + 1) (i + 1) (1 + steps path) _ (rw t at more) (follow_found path) in
      record { number = omega (arith, l.number); forward = omega (arith, l.forward); within = l.within })
      (λ f. unfound (omega arith) (rw f at more)))

module _ (words text path : List ℕ) {i n : ℕ} (h : find_path words text path ≡ found i n) where
  looked : Looked words i n 0 0 (1 + steps path)
  unfolding find_path
  looked = split (ltb longest (length text)) (λ t. unfound (omega arith) (rw (t, find_path) at h)) (λ f. follow_found words i n path 0 0 (rw (f, find_path) at h))

  -- on every table: "for a found node that is 1 plus the sum of (index + 1) over the path"
  pub found_count : n ≡ 1 + steps path
  found_count = omega (arith, looked.number)

  -- a found node is whole inside the table, and no more nodes were looked at than stand up to it
  pub found_within : i < length words / 4
  found_within = looked.within

  pub found_first : n ≤ i + 1
  found_first = omega (arith, looked.number, looked.forward)
