-- A walk over the nodes of a table that holds a tree, in their order, needs the next node and the innermost open list alone: that list's span says where it
-- ends, and its third word leads back to the list around it, which goes on with the node there.
-- Assumes nothing.
use Prim.Native.Nat.{ℕ, ◌+◌, ◌-◌, ◌*◌, ◌≤◌, ◌<◌}
use native.Mathlib.Omega.{arith}
use mathlib.Core.Path.{◌≡◌, refl, sym, ap, ◌∙◌, subst}
use mathlib.Core.List.{List, [], ◌∷◌, ◌++◌, append_assoc}
use lib.ListN.{length, drop}
use Rattle.sise_tree.specs.Tree.{Node, atom, list, Nodes, empty, ◌then◌, size, sizes, children, table_at, tables, kind, first, second, span}
use Rattle.sise_tree.proofs.TreeLaws.{Kinded, KindedAll, kinded, size_pos, holds_words}
use Rattle.sise_tree.proofs.LocalLaws.{stands, skip, Held}

module _ (words : List ℕ) where
  -- the nodes c, from node i on, are what is left of the list `cur`
  pub record Rest (cur i : ℕ) (c : Nodes) : Type 0 where
    pub distance : ℕ
    pub behind : i ≡ cur + distance
    pub after : 1 ≤ distance
    pub spelt : drop (4 * i) words ≡ tables distance c ++ drop (4 * (i + sizes c)) words
    pub stop : i + sizes c ≡ cur + span words cur
    pub fit : 4 * (i + sizes c) ≤ length words
    pub kinds : KindedAll c

  -- the list `cur` is a child: its third word leads back to its parent, of which the nodes d are left behind its span
  pub record Child (cur : ℕ) (d : Nodes) : Type 0 where
    pub away : 1 ≤ second words cur
    pub within : second words cur ≤ cur
    pub rest : Rest (cur - second words cur) (cur + span words cur) d

  -- what is left of each list around `cur`, the innermost first; the outermost list is the first node
  unfoldable pub Around : ℕ → List Nodes → Type 0
  Around cur [] = cur ≡ 0
  Around cur (d ∷ o) = Child cur d × Around (cur - second words cur) o

  -- the walk is at node i, in the list `cur`
  pub record Walk (cur i : ℕ) (c : Nodes) (o : List Nodes) : Type 0 where
    pub rest : Rest cur i c
    pub around : Around cur o

  -- it is at an atom, and then behind it
  pub record AtomNext (cur i k p m : ℕ) (c : Nodes) (o : List Nodes) : Type 0 where
    pub kinds : kind words i ≡ k
    pub some : kind words i ≡ 0 → ⊥
    pub places : first words i ≡ p
    pub lengths : second words i ≡ m
    pub next : Walk cur (i + 1) c o

  -- it is at a list, and then in it
  pub record ListNext (cur i : ℕ) (d c : Nodes) (o : List Nodes) : Type 0 where
    pub kinds : kind words i ≡ 0
    pub counts : first words i ≡ children d
    pub spans : span words i ≡ 1 + sizes d
    pub parent : i - second words i ≡ cur
    pub next : Walk i (i + 1) d (c ∷ o)

  -- past a node: its words, and what is left behind them
  past :
      {cur i : ℕ} (n : Node) (c : Nodes) (r : Rest cur i (n then c))
      → (drop (4 * i) words ≡ table_at r.distance n ++ drop (4 * (i + size n)) words) × Rest cur (i + size n) c
  unfolding tables sizes KindedAll
  past {i = i} n c r =
      let d = r.distance in
      let z : i + (size n + sizes c) ≡ i + size n + sizes c = omega arith in
      let after : List ℕ = tables (d + size n) c ++ drop (4 * (i + size n + sizes c)) words in
      let its : drop (4 * i) words ≡ table_at d n ++ after = rw (z, append_assoc) at r.spelt in
      let next : drop (4 * (i + size n)) words ≡ after = skip words d n i after its in (
        its ∙ ap (λ (l : List ℕ). table_at d n ++ l) (sym next),
        record {
          distance = d + size n;
          behind = omega (arith, r.behind);
          after = omega (arith, r.after);
          spelt = next;
          stop = omega (arith, r.stop);
          fit = omega (arith, r.fit);
          kinds = r.kinds.1;
        },
      )

  pub walk_atom : {cur i : ℕ} (k p m : ℕ) (c : Nodes) (o : List Nodes) → Walk cur i (atom k p m then c) o → AtomNext cur i k p m c o
  unfolding table_at size Kinded KindedAll
  walk_atom {i = i} k p m c o w =
      let (its, next) = past (atom k p m) c w.rest in
      let s = stands words i its in
      record { kinds = s.kinds; some = λ z. w.rest.kinds.0 (sym s.kinds ∙ z); places = s.firsts; lengths = s.seconds; next = record { rest = next; around = w.around } }

  pub walk_list : {cur i : ℕ} (d c : Nodes) (o : List Nodes) → Walk cur i (list d then c) o → ListNext cur i d c o
  unfolding Around table_at size Kinded KindedAll
  walk_list {cur} {i} d c o w =
      let r = w.rest in
      let (its, next) = past (list d) c r in
      let s = stands words i its in
      let z : i + (1 + sizes d) ≡ i + 1 + sizes d = omega arith in
      let parent : i - second words i ≡ cur = omega (arith, s.seconds, r.behind) in
      record {
        kinds = s.kinds;
        counts = s.firsts;
        spans = s.spans;
        parent = parent;
        next = record {
          rest = record {
            distance = 1;
            behind = refl;
            after = omega arith;
            spelt = rw z at s.after;
            stop = omega (arith, s.spans);
            fit = omega (arith, next.fit);
            kinds = r.kinds.0;
          };
          around = (
            record { away = omega (arith, s.seconds, r.after); within = omega (arith, s.seconds, r.behind); rest = rw (parent, s.spans) next },
            rw parent w.around,
          );
        };
      }

  -- the list ends, and the walk goes on in its parent
  pub walk_close : {cur i : ℕ} (d : Nodes) (o : List Nodes) → Walk cur i empty (d ∷ o) → Walk (cur - second words cur) i d o
  unfolding Around sizes
  walk_close {cur} {i} d o w =
      let z : cur + span words cur ≡ i = omega (arith, w.rest.stop) in
      record { rest = subst (λ (j : ℕ). Rest (cur - second words cur) j d) z w.around.0.rest; around = w.around.1 }

  -- a list ends where no node of it is left
  pub walk_ends : {cur i : ℕ} (c : Nodes) (o : List Nodes) → Walk cur i c o → i ≡ cur + span words cur → c ≡ empty
  unfolding sizes
  walk_ends empty o w z = refl
  walk_ends (n then c) o w z = absurd (omega (arith, size_pos n, w.rest.stop))

  -- the lists around a list that is open end with the first node's span at most
  within_first : (cur : ℕ) (o : List Nodes) → Around cur o → cur + span words cur ≤ span words 0
  unfolding Around
  within_first cur [] a = rw a (omega arith)
  within_first cur (d ∷ o) a = omega (arith, a.0.rest.stop, within_first (cur - second words cur) o a.1)

  pub walk_within : {cur i : ℕ} (c : Nodes) (o : List Nodes) → Walk cur i c o → (cur < i) × (i + sizes c ≤ span words 0)
  walk_within {cur} c o w =
      let r = w.rest in
      (omega (arith, r.behind, r.after), omega (arith, r.stop, within_first cur o w.around))

-- from a first node that is a list
pub walk_root : {l words : List ℕ} (c : Nodes) → Held l words (list c) → Walk words 0 1 c []
unfolding Around table_at size Kinded
walk_root {l} {words} c h =
    let s = stands words 0 (holds_words h.holds) in
    record {
      rest = record { distance = 1; behind = refl; after = omega arith; spelt = s.after; stop = omega (arith, s.spans); fit = omega (arith, h.fits); kinds = kinded l (list c) h.holds.in_text };
      around = refl;
    }
