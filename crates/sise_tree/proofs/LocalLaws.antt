-- A table holds a tree exactly if each node of the first node's span is good: the nodes that a list's count steps over are its children, each with its
-- own span and, if it is a list, its distance.
-- Assumes nothing.
use Prim.Native.Nat.{ℕ, zero, suc, ◌+◌, ◌-◌, ◌*◌, ◌/◌, ◌≤◌, ◌<◌}
use native.Mathlib.Numerals.{one-add}
use native.Mathlib.Nat.{add-zero}
use native.Mathlib.Omega.{arith}
use mathlib.Core.Path.{◌≡◌, refl, sym, ap, ◌∙◌}
use mathlib.Core.Bool.{true, false, false≢true}
use mathlib.Core.Option.{Option, none, some}
use mathlib.Core.List.{List, ◌∷◌, ◌++◌, append_assoc}
use lib.Dec.{leb, ltb, eqb}
use lib.ListN.{length, get_or, drop, length-append, length-drop}
use lib.Seq.{drop-drop, drop_at, get_or-drop}
use borrow.Author.Tests.{ltb-true, ltb-false, leb-true, eqb-true, eqb-false, lt-ltb, le-leb, eq-eqb, ne_eqb}
use Rattle.sise_util.proofs.Ranges.{split, and_first, both}
use Rattle.sise_tree.specs.Tree.{Node, atom, list, Nodes, empty, ◌then◌, size, sizes, children, table_at, tables, sits, lies, lies_all, Holds, kind, first, second, span, linked, fills, fills_in, good, HoldsTree}
use Rattle.sise_tree.specs.Decision.{is_some, decide}
use Rattle.sise_tree.proofs.TreeLaws.{anded, sits_kind, Kinded, kinded, length-table, length-tables, size_pos, spelt_holds, holds_words, holds_fits}
use Rattle.sise_tree.proofs.DecisionLaws.{decide_sound, decide_complete}
use Rattle.sise_tree.proofs.Rows.{four}

pub fills_le : (words : List ℕ) (p c i e : ℕ) → fills words p c i e ≡ true → i ≤ e
unfolding fills
fills_le words p zero i e h = omega (arith, eqb-true i e h)
fills_le words p (suc c) i e h = let lt = and_first (ltb i e) _ h in omega (arith, ltb-true i e lt)

module _ (words : List ℕ) where
  -- the words of a node are these, and these follow it
  pub record Stands (a k x y p : ℕ) (rest : List ℕ) : Type 0 where
    pub kinds : kind words a ≡ k
    pub firsts : first words a ≡ x
    pub seconds : second words a ≡ y
    pub spans : span words a ≡ p
    pub after : drop (4 * (a + 1)) words ≡ rest
    pub within : 4 * (a + 1) + length rest ≤ length words

  pub stands : (a : ℕ) {k x y p : ℕ} {rest : List ℕ} → drop (4 * a) words ≡ k ∷ x ∷ y ∷ p ∷ rest → Stands a k x y p rest
  stands a {rest} e =
      record {
        kinds = rw (add-zero (4 * a)) at (sym (get_or-drop (4 * a) words 0 0) ∙ ap (λ (ws : List ℕ). get_or ws 0 0) e);
        firsts = sym (get_or-drop (4 * a) words 1 0) ∙ ap (λ (ws : List ℕ). get_or ws 1 0) e;
        seconds = sym (get_or-drop (4 * a) words 2 0) ∙ ap (λ (ws : List ℕ). get_or ws 2 0) e;
        spans = sym (get_or-drop (4 * a) words 3 0) ∙ ap (λ (ws : List ℕ). get_or ws 3 0) e;
        after = ap (λ (i : ℕ). drop i words) {x = 4 * (a + 1)} {y = 4 * a + 4} (omega arith) ∙ sym (drop-drop 4 (4 * a) words) ∙ ap (λ (ws : List ℕ). drop 4 ws) e;
        within = omega (arith, length-drop (4 * a) words, ap length e);
      }

  pub skip : (d : ℕ) (n : Node) (a : ℕ) (rest : List ℕ) → drop (4 * a) words ≡ table_at d n ++ rest → drop (4 * (a + size n)) words ≡ rest
  skip d n a rest e =
      ap (λ (i : ℕ). drop i words) {x = 4 * (a + size n)} {y = 4 * a + 4 * size n} (omega arith)
      ∙ sym (drop-drop (4 * size n) (4 * a) words)
      ∙ ap (λ (ws : List ℕ). drop (4 * size n) ws) e
      ∙ drop_at (table_at d n) rest (4 * size n) (length-table d n)

  -- a list's third word is its distance to its parent
  linked_third : (p d : ℕ) {a : ℕ} → a ≡ p + d → linked words p a ≡ true → kind words a ≡ 0 → second words a ≡ d
  unfolding linked
  linked_third p d {a} z h k = let e = eqb-true (second words a) (a - p) (rw (k, linked) at h) in omega arith

  third_linked : (p d : ℕ) {a : ℕ} (n : Node) (rest : List ℕ) → a ≡ p + d → drop (4 * a) words ≡ table_at d n ++ rest → Kinded n → linked words p a ≡ true
  unfolding linked table_at Kinded
  third_linked p d {a} (atom k q m) rest z e such = let s = stands a e in rw (ne_eqb (kind words a) 0 (λ (y : kind words a ≡ 0). such (sym s.kinds ∙ y)), linked)
  third_linked p d {a} (list c) rest z e such = let s = stands a e in rw (s.kinds, linked) (eq-eqb (second words a) (a - p) (omega (arith, s.seconds)))

module _ (l words : List ℕ) where
  -- each node from a up to e is good
  abbrev pub Each : ℕ → ℕ → Type 0
  Each a e = (k : ℕ) → a ≤ k → k < e → good l words k ≡ true

  -- node a, d nodes behind its parent, made of the checks
  record Made (d a : ℕ) : Type 0 where
    node : Node
    spelt : drop (4 * a) words ≡ table_at d node ++ drop (4 * (a + span words a)) words
    total : size node ≡ span words a
    in_text : lies l node ≡ true

  -- a row of c nodes from a up to e
  record Built (d c a e : ℕ) : Type 0 where
    nodes : Nodes
    count : children nodes ≡ c
    spelt : drop (4 * a) words ≡ tables d nodes ++ drop (4 * e) words
    total : a + sizes nodes ≡ e
    in_text : lies_all l nodes ≡ true

  built_none : {d a e : ℕ} → a ≡ e → Built d 0 a e
  unfolding sizes children tables lies_all
  built_none h = record { nodes = empty; count = refl; spelt = rw h; total = omega arith; in_text = refl }

  built_then : {d c a e : ℕ} → Made d a → Built (d + span words a) c (a + span words a) e → Built d (suc c) a e
  unfolding sizes children tables lies_all
  built_then {d} {a = a} {e} n more =
      record {
        nodes = n.node then more.nodes;
        count = omega (arith, more.count);
        spelt = cc (n.spelt, n.total, more.spelt, append_assoc (table_at d n.node) (tables (d + span words a) more.nodes) (drop (4 * e) words));
        total = omega (arith, n.total, more.total);
        in_text = both _ _ n.in_text more.in_text;
      }

  made_atom : {d a : ℕ} → 4 * (a + 1) ≤ length words → span words a ≡ 1 → sits l (kind words a) (first words a) (second words a) ≡ true → Made d a
  unfolding size table_at lies
  made_atom {a = a} u s t =
      record { node = atom (kind words a) (first words a) (second words a); spelt = cc (four words a u); total = sym s; in_text = t }

  made_list :
      {d a : ℕ} → 4 * (a + 1) ≤ length words → kind words a ≡ 0 → second words a ≡ d → Built 1 (first words a) (a + 1) (a + span words a)
      → Made d a
  unfolding size table_at lies
  made_list {a = a} u k z own =
      let total : 1 + sizes own.nodes ≡ span words a = omega (arith, own.total) in
      record { node = list own.nodes; spelt = cc (four words a u, own.count, own.spelt); total = total; in_text = own.in_text }

  -- a good node is made, if a list's children are
  made :
      {d a : ℕ} → 4 * (a + 1) ≤ length words → good l words a ≡ true → (kind words a ≡ 0 → second words a ≡ d)
      → (fills words a (first words a) (a + 1) (a + span words a) ≡ true → Built 1 (first words a) (a + 1) (a + span words a)) → Made d a
  unfolding fills_in good
  made {a = a} u here third own =
      split (eqb (kind words a) 0)
      (λ k.
      anded {a = leb (a + span words a) (length words / 4)} (rw (k, good) at here) λ o filled.
      let z = eqb-true (kind words a) 0 k in
      made_list u z (third z) (own filled))
      (λ k.
      anded (rw (k, good) at here) λ s t.
      made_atom u (eqb-true (span words a) 1 s) t)

  build :
      (f p d c a e : ℕ) → e ≤ a + f → 4 * e ≤ length words → a ≡ p + d → fills words p c a e ≡ true → Each a e → Built d c a e
  unfolding fills
  build zero p d zero a e b u z h each = built_none (eqb-true a e h)
  build zero p d (suc c) a e b u z h each = absurd (omega (arith, ltb-true a e (and_first (ltb a e) _ h)))
  build (suc f) p d zero a e b u z h each = built_none (eqb-true a e h)
  build (suc f) p d (suc c) a e b u z h each =
      anded h λ lt more.
      anded more λ some more.
      anded more λ third next.
      let s = span words a in
      let less : a < e = ltb-true a e lt in
      let le : a + s ≤ e = fills_le words p c (a + s) e next in
      let past : 1 ≤ s = leb-true 1 s some in
      built_then
      (made (omega arith) (each a (omega arith) less) (linked_third words p d z third)
      (λ own. build f a 1 (first words a) (a + 1) (a + s) (omega arith) (omega arith) refl own (λ k g o. each k (omega arith) (omega arith))))
      (build f p (d + s) c (a + s) e (omega arith) u (omega arith) next (λ k g. each k (omega arith)))

  -- the first node's third word is not looked at
  pub sound_holds : HoldsTree l words → (n : Node) × Holds l words n
  sound_holds s =
      let e = span words 0 in
      let m : Made (second words 0) 0 =
      made (omega (arith, s.begun, s.fit)) (s.each 0 s.begun) (λ k. refl)
      (λ own. build e 0 1 (first words 0) (0 + 1) (0 + e) (omega arith) (omega (arith, s.fit)) refl own (λ k g o. s.each k (omega arith))) in
      (m.node, spelt_holds (second words 0) m.node (drop (4 * (0 + e)) words) m.spelt m.in_text)

  each_one : {a : ℕ} → good l words a ≡ true → Each a (a + 1)
  each_one {a} p k h g = let e : a ≡ k = omega arith in rw e at p

  each_join : {a m e : ℕ} → Each a m → Each m e → Each a e
  each_join {m} p q k h g = split (ltb k m) (λ t. p k h (ltb-true k m t)) (λ t. q k (ltb-false k m t) g)

  atom_good : {a k p n : ℕ} {rest : List ℕ} → Stands words a k p n 1 rest → sits l k p n ≡ true → good l words a ≡ true
  unfolding good
  atom_good {a} {k} {p} {n} s t = rw (s.kinds, good, ne_eqb k 0 (sits_kind l k p n t)) (both _ _ (eq-eqb _ _ s.spans) (rw (s.firsts, s.seconds) t))

  list_good : {a c d p : ℕ} {rest : List ℕ} → Stands words a 0 c d p rest → fills_in words a c (a + 1) (a + p) ≡ true → good l words a ≡ true
  unfolding good
  list_good s t = rw (s.kinds, good) (rw (s.firsts, s.spans) t)

  -- in the words of a tree each node is good, and in those of a row of node p's children the spans fill it too
  mutual
    unfolding fills fills_in size sizes children table_at tables lies lies_all

    pub node_local :
        (d : ℕ) (n : Node) (a : ℕ) (rest : List ℕ) → drop (4 * a) words ≡ table_at d n ++ rest → lies l n ≡ true
        → (span words a ≡ size n) × Each a (a + size n)
    node_local d (atom k p n) a rest e t = let s = stands words a e in (s.spans, each_one (atom_good s t))
    node_local d (list c) a rest e t =
        let s = stands words a e in
        let (own, each) = row_local a 1 c (a + 1) rest refl s.after t in
        let z : a + 1 + sizes c ≡ a + (1 + sizes c) = omega arith in
        let within : a + (1 + sizes c) ≤ length words / 4 = omega (arith, s.within, length-append (tables 1 c) rest, length-tables 1 c) in
        (s.spans, each_join (each_one (list_good s (both _ _ (le-leb _ _ within) (rw z at own)))) (rw z at each))

    pub row_local :
        (p d : ℕ) (c : Nodes) (a : ℕ) (rest : List ℕ) → a ≡ p + d → drop (4 * a) words ≡ tables d c ++ rest → lies_all l c ≡ true
        → (fills words p (children c) a (a + sizes c) ≡ true) × Each a (a + sizes c)
    row_local p d empty a rest q e t = (eq-eqb a (a + 0) (omega arith), λ k h g. absurd (omega arith))
    row_local p d (n then c) a rest q e t =
        anded t λ here more.
        let after = tables (d + size n) c ++ rest in
        let e' : drop (4 * a) words ≡ table_at d n ++ after = rw append_assoc at e in
        let (spans, each) = node_local d n a after e' here in
        let (next, others) = row_local p (d + size n) c (a + size n) rest (omega arith) (skip words d n a after e') more in
        let z : a + size n + sizes c ≡ a + (size n + sizes c) = omega arith in (
          rw (one-add (children c), spans)
              (both _ _ (lt-ltb a _ (omega (arith, size_pos n))) (both _ _ (le-leb 1 _ (size_pos n)) (both _ _ (third_linked words p d n after q e' (kinded l n here)) (rw z at next)))),
          each_join each (rw z at others),
        )

  -- "A subtree is the part of the table from its node": from each node of a tree on, the words hold one
  abbrev Subtree : ℕ → Type 0
  Subtree k = (m : Node) × Holds l (drop (4 * k) words) m

  its_subtree : (d : ℕ) (n : Node) (a : ℕ) (rest : List ℕ) → drop (4 * a) words ≡ table_at d n ++ rest → lies l n ≡ true → Subtree a
  its_subtree d n a rest e t = (n, spelt_holds d n rest e t)

  mutual
    unfolding size sizes table_at tables lies lies_all

    node_subtree :
        (d : ℕ) (n : Node) (a : ℕ) (rest : List ℕ) → drop (4 * a) words ≡ table_at d n ++ rest → lies l n ≡ true
        → (k : ℕ) → a ≤ k → k < a + size n → Subtree k
    node_subtree d (atom w p m) a rest e t k g o = let z : a ≡ k = omega arith in rw z at (its_subtree d (atom w p m) a rest e t)
    node_subtree d (list c) a rest e t k g o =
        split (eqb a k)
        (λ z. rw (eqb-true a k z) at (its_subtree d (list c) a rest e t))
        (λ z. let other = eqb-false a k z in row_subtree 1 c (a + 1) rest (stands words a e).after t k (omega arith) (omega arith))

    row_subtree :
        (d : ℕ) (c : Nodes) (a : ℕ) (rest : List ℕ) → drop (4 * a) words ≡ tables d c ++ rest → lies_all l c ≡ true
        → (k : ℕ) → a ≤ k → k < a + sizes c → Subtree k
    row_subtree d empty a rest e t k g o = absurd (omega arith)
    row_subtree d (n then c) a rest e t k g o =
        anded t λ here more.
        let after = tables (d + size n) c ++ rest in
        let e' : drop (4 * a) words ≡ table_at d n ++ after = rw append_assoc at e in
        split (ltb k (a + size n))
        (λ z. node_subtree d n a after e' here k g (ltb-true k (a + size n) z))
        (λ z. row_subtree (d + size n) c (a + size n) rest (skip words d n a after e') more k (ltb-false k (a + size n) z) (omega arith))

  pub subtree : {n : Node} → Holds l words n → (k : ℕ) → k < size n → Subtree k
  subtree {n} h k o = node_subtree (second words 0) n 0 (drop (4 * size n) words) (holds_words h) h.in_text k (omega arith) (omega arith)

  -- what a table that holds n has
  pub record Held (n : Node) : Type 0 where
    pub holds : Holds l words n
    pub tree : HoldsTree l words
    pub spans : span words 0 ≡ size n
    pub fits : 4 * size n ≤ length words

  holds_held : {n : Node} → Holds l words n → Held n
  holds_held {n} h =
      let (spans, each) = node_local (second words 0) n 0 (drop (4 * size n) words) (holds_words h) h.in_text in
      let fits = holds_fits h in
      record {
        holds = h;
        tree =
            record {
              begun = omega (arith, size_pos n, spans);
              fit = omega (arith, fits, spans);
              each = λ k g. each k (omega arith) (omega (arith, spans));
            };
        spans = spans;
        fits = fits;
      }

  pub holds_sound : (n : Node) → Holds l words n → HoldsTree l words
  holds_sound n h = (holds_held h).tree

  pub holds_here : {n : Node} → decide l words ≡ some n → Held n
  holds_here e = holds_held (decide_sound e)

  -- after holds_tree has answered true
  pub held : is_some (decide l words) ≡ true → (n : Node) × (decide l words ≡ some n) × Held n
  unfolding is_some
  held = of (decide l words) refl
    where
      of : (d : Option Node) → decide l words ≡ d → is_some d ≡ true → (n : Node) × (decide l words ≡ some n) × Held n
      of none e h = absurd (false≢true h)
      of (some n) e h = (n, e, holds_here e)

  -- the decision by the checks
  pub sound_decides : HoldsTree l words → is_some (decide l words) ≡ true
  unfolding is_some
  sound_decides s = let (n, h) = sound_holds s in rw (decide_complete h)

  pub unsound_refuses : (HoldsTree l words → ⊥) → is_some (decide l words) ≡ false
  unfolding is_some
  unsound_refuses not = of (decide l words) refl
    where
      of : (d : Option Node) → decide l words ≡ d → is_some d ≡ false
      of none e = refl
      of (some n) e = absurd (not (holds_sound n (decide_sound e)))
