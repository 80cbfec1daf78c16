-- On a table that holds a tree, the lookup that reads only the nodes on the way answers as the one that tests the whole table: there each child's fourth
-- word is its size, so that stepping past it leads to the next.
-- Assumes nothing.
use Prim.Native.Nat.{ℕ, zero, suc, ◌+◌, ◌-◌, ◌*◌, ◌/◌, ◌≤◌, ◌<◌}
use native.Mathlib.Omega.{arith}
use mathlib.Core.Path.{◌≡◌, refl, sym, ap, ◌∙◌}
use mathlib.Core.Bool.{true, false, false≢true}
use mathlib.Core.Option.{Option, none, some}
use mathlib.Core.List.{List, [], ◌∷◌, ◌++◌, append_assoc}
use lib.Dec.{ltb, eqb}
use lib.ListN.{length, drop, length-append, length-drop}
use borrow.Author.Tests.{ltb-true, ltb-false, lt-ltb, le-ltb, ne_eqb}
use Rattle.sise_util.proofs.Ranges.{split, and_first, and_second}
use Rattle.sise_tree.specs.Tree.{Node, atom, list, Nodes, empty, ◌then◌, size, children, table_at, tables, lies, lies_all, kind, second, span, HoldsTree}
use Rattle.sise_tree.specs.ParseTree.{longest}
use Rattle.sise_tree.specs.Decision.{is_some, decide}
use Rattle.sise_tree.specs.Answers.{Answer, answered, refused_with, path_refusal, number_of}
use Rattle.sise_tree.specs.declared.tree.PathError.{PathError}
use Rattle.sise_tree.specs.declared.tree.PathError.TheVariants.{TextTooLong, NotATree, NoSuchNode}
use Rattle.sise_tree.specs.IndexPath.{node_at, child_at, indexed, indexed_in, index_path}
use Rattle.sise_tree.specs.FindPath.{passing, follow, Lookup, found, refused, looked_up, find_path, steps, with_count, found_number}
use Rattle.sise_tree.proofs.TreeLaws.{sits_kind, length-table, size_pos, holds_words}
use Rattle.sise_tree.proofs.DecisionLaws.{decide_sound}
use Rattle.sise_tree.proofs.LocalLaws.{stands, skip, node_local, held, sound_decides}
use Rattle.sise_tree.proofs.FindLaws.{read_inside, passing_one, follow_none, follow_child}

pub no_child : (c : Nodes) (i k : ℕ) (path : List ℕ) → children c ≤ k → child_at c i k path ≡ none
unfolding child_at children
no_child empty i k path h = refl
no_child (n then c) i zero path h = absurd (omega arith)
no_child (n then c) i (suc k) path h = no_child c (i + size n) k path (omega arith)

pub node_here : (n : Node) (i : ℕ) → node_at n i [] ≡ some i
unfolding node_at
node_here (atom w p m) i = refl
node_here (list c) i = refl

-- what the full lookup finds, and the number of nodes looked at
abbrev reached : Option ℕ → ℕ → Lookup
reached none n = refused 16
reached (some i) n = found i n

module _ (l words : List ℕ) where
  inside : (d : ℕ) (n : Node) (i : ℕ) (rest : List ℕ) → drop (4 * i) words ≡ table_at d n ++ rest → i < length words / 4
  inside d n i rest e =
      omega (arith, size_pos n, length-table d n, length-append (table_at d n) rest, length-drop (4 * i) words, ap length e)

  -- from each node of a tree along this path, after m nodes looked at
  abbrev Follows : List ℕ → Type 0
  Follows path =
      (d : ℕ) (n : Node) (i m : ℕ) (rest : List ℕ) → drop (4 * i) words ≡ table_at d n ++ rest → lies l n ≡ true
      → looked_up m (follow words i path) ≡ reached (node_at n i path) (m + (1 + steps path))

  -- and so from the k-th of the nodes in a row
  follows_row :
      (path : List ℕ) → Follows path → (k d : ℕ) (c : Nodes) (i m : ℕ) (rest : List ℕ) → drop (4 * i) words ≡ tables d c ++ rest → lies_all l c ≡ true
      → k < children c → looked_up m (passing words k i (λ j. follow words j path)) ≡ reached (child_at c i k path) (m + (k + (1 + steps path)))
  unfolding passing looked_up child_at tables lies_all children
  follows_row path on zero d empty i m rest e t h = absurd (omega arith)
  follows_row path on (suc k) d empty i m rest e t h = absurd (omega arith)
  follows_row path on zero d (n then c) i m rest e t h =
      let z : m + (0 + (1 + steps path)) ≡ m + (1 + steps path) = omega arith in
      rw z (on d n i m (tables (d + size n) c ++ rest) (rw append_assoc at e) (and_first _ _ t))
  follows_row path on (suc k) d (n then c) i m rest e t h =
      let after = tables (d + size n) c ++ rest in
      let e' : drop (4 * i) words ≡ table_at d n ++ after = rw append_assoc at e in
      let spans = (node_local l words d n i after e' (and_first _ _ t)).0 in
      let next = follows_row path on k (d + size n) c (i + size n) (m + 1) rest (skip words d n i after e') (and_second (lies l n) _ t) (omega arith) in
      let one = passing_one words (suc k) (λ j. follow words j path) (inside d n i after e') (omega arith) (λ (z : span words i ≡ 0). omega (arith, size_pos n, spans, z)) in
      let less : suc k - 1 ≡ k = omega arith in
      let count : m + (suc k + (1 + steps path)) ≡ m + 1 + (k + (1 + steps path)) = omega arith in
      ap (looked_up m) one ∙ rw (less, spans, count) next

  follows : (path : List ℕ) → Follows path
  unfolding follow looked_up node_at steps table_at lies
  follows [] d n i m rest e t =
      let z : m + (1 + 0) ≡ m + 1 = omega arith in
      rw (node_here n i, z) (ap (looked_up m) (read_inside words _ (inside d n i rest e)))
  follows (k ∷ path) d (atom w p q) i m rest e t =
      let s = stands words i e in
      let other : eqb (kind words i) 0 ≡ false = ne_eqb (kind words i) 0 (λ (z : kind words i ≡ 0). sits_kind l w p q t (sym s.kinds ∙ z)) in
      ap (looked_up m) (follow_none words k path (inside d (atom w p q) i rest e) (rw other))
  follows (k ∷ path) d (list c) i m rest e t =
      let s = stands words i e in
      let here = inside d (list c) i rest e in
      split (ltb k (children c))
      (λ y.
      let less = ltb-true k (children c) y in
      let count : m + (1 + (k + 1 + steps path)) ≡ m + 1 + (k + (1 + steps path)) = omega arith in
      ap (looked_up m) (follow_child words k path here (rw (s.kinds, s.firsts) y))
      ∙ rw count (follows_row path (follows path) k 1 c (i + 1) (m + 1) rest s.after t less))
      (λ y.
      let more = ltb-false k (children c) y in
      ap (looked_up m) (follow_none words k path here (rw (s.kinds, s.firsts) y)) ∙ rw (no_child c (i + 1) k path more))

module _ (words text path : List ℕ) where
  counts : (o : Option ℕ) → reached o (1 + steps path) ≡ with_count path (indexed o)
  counts none = refl
  counts (some i) = refl

  as_decided : {n : Node} → decide text words ≡ some n → find_path words text path ≡ with_count path (index_path words text path)
  unfolding find_path index_path
  as_decided {n} e =
      let h = decide_sound e in
      let same : 0 + (1 + steps path) ≡ 1 + steps path = omega arith in
      let way = follows text words path (second words 0) n 0 0 (drop (4 * size n) words) (holds_words h) h.in_text in
      split (ltb longest (length text)) (λ y. rw y) (λ y. rw (y, e) (rw same at way ∙ counts (node_at n 0 path)))

  -- "On a table that holds a tree it answers as the full lookup, with the number of nodes looked at"
  pub find_as_index : HoldsTree text words → find_path words text path ≡ with_count path (index_path words text path)
  find_as_index h = let (n, e, s) = held text words (sound_decides text words h) in as_decided e

  -- so it finds each node that the full lookup finds
  pub found_as_index : {i : ℕ} → index_path words text path ≡ answered i → find_path words text path ≡ found i (1 + steps path)
  unfolding index_path
  found_as_index {i} h = of (decide text words) refl
    where
      of : (d : Option Node) → decide text words ≡ d → find_path words text path ≡ found i (1 + steps path)
      of (some n) e = as_decided e ∙ ap (with_count path) h
      of none e =
          split (ltb longest (length text)) (λ y. absurd (omega (arith, ap number_of (rw (y, index_path) at h)))) (λ y. absurd (omega (arith, ap number_of (rw (y, index_path, e) at h))))

-- ---- the code's answers

found_index : (o : Option ℕ) (m : ℕ) {i n : ℕ} → found i n ≡ reached o m → answered i ≡ indexed o
found_index none m z = absurd (omega (arith, ap found_number z))
found_index (some i) m z = ap answered cc

refused_index : (o : Option ℕ) (m : ℕ) (e : PathError) → refused (path_refusal e).number ≡ reached o m → Answer.refused (path_refusal e) ≡ indexed o
refused_index none m TextTooLong z = absurd (omega (arith, ap found_number z))
refused_index none m NotATree z = absurd (omega (arith, ap found_number z))
refused_index none m NoSuchNode z = refl
refused_index (some i) m TextTooLong z = absurd (omega (arith, ap found_number z))
refused_index (some i) m NotATree z = absurd (omega (arith, ap found_number z))
refused_index (some i) m NoSuchNode z = absurd (omega (arith, ap found_number z))

module _ (words text path : List ℕ) where
  pub too_long : longest < length text → index_path words text path ≡ refused_with 13
  unfolding index_path
  too_long h = rw (lt-ltb longest (length text) h)

  module _ (short : length text ≤ longest) where
    as_held : index_path words text path ≡ indexed_in (decide text words) path
    unfolding index_path
    as_held = rw (le-ltb longest (length text) short)

    pub no_tree_lem : is_some (decide text words) ≡ false → index_path words text path ≡ refused_with 15
    unfolding is_some
    no_tree_lem f = as_held ∙ of (decide text words) f
      where
        of : (d : Option Node) → is_some d ≡ false → indexed_in d path ≡ refused_with 15
        of none h = refl
        of (some n) h = absurd (false≢true (sym h))

    module _ (tree : is_some (decide text words) ≡ true) where
      -- both lookups of it
      record Both : Type 0 where
        node : Option ℕ
        count : ℕ
        full : index_path words text path ≡ indexed node
        way : find_path words text path ≡ reached node count

      both : Both
      unfolding find_path
      both =
          let (n, e, h) = held text words tree in
          record {
            node = node_at n 0 path;
            count = 0 + (1 + steps path);
            full = as_held ∙ ap (λ (d : Option Node). indexed_in d path) e;
            way = rw (le-ltb longest (length text) short) (follows text words path (second words 0) n 0 0 (drop (4 * size n) words) (holds_words h.holds) h.holds.in_text);
          }

      pub index_found : {i n : ℕ} → found i n ≡ find_path words text path → answered i ≡ index_path words text path
      index_found z = found_index both.node both.count (z ∙ both.way) ∙ sym both.full

      pub index_refused : (e : PathError) → refused (path_refusal e).number ≡ find_path words text path → Answer.refused (path_refusal e) ≡ index_path words text path
      index_refused e z = refused_index both.node both.count e (z ∙ both.way) ∙ sym both.full
