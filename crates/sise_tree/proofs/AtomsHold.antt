-- The atoms of a tree are those of its nodes: each holds exactly if the atoms of the tree do, node by node in the table's order.
-- Assumes nothing.
use Prim.Native.Nat.{ℕ, ◌+◌, ◌*◌, ◌≤◌, ◌<◌}
use native.Mathlib.Omega.{arith}
use mathlib.Core.Path.{◌≡◌, refl, sym, ◌∙◌}
use mathlib.Core.Bool.{true, false, false≢true}
use mathlib.Core.Option.{some}
use mathlib.Core.List.{List, ◌++◌, append_assoc}
use lib.Dec.{ltb, eqb}
use lib.ListN.{drop}
use borrow.Author.Tests.{ltb-true, ltb-false, eqb-true, eqb-false, eq-eqb, ne_eqb}
use Rattle.sise_util.specs.Atom.{is_atom_prefix}
use Rattle.sise_util.proofs.Ranges.{split, both}
use Rattle.sise_tree.specs.Tree.{Node, atom, list, Nodes, empty, ◌then◌, size, sizes, table_at, tables, lies, lies_all, atoms_hold, atoms_hold_all, kind, first, second, span}
use Rattle.sise_tree.specs.Parts.{atom_holds_at}
use Rattle.sise_tree.specs.Decision.{decide}
use Rattle.sise_tree.proofs.TreeLaws.{anded, sits_kind, holds_words}
use Rattle.sise_tree.proofs.LocalLaws.{stands, skip, Held, holds_here}

module _ (text words : List ℕ) where
  -- each node from a up to e, if an atom, is one
  abbrev pub Each : ℕ → ℕ → Type 0
  Each a e = (k : ℕ) → a ≤ k → k < e → atom_holds_at text words k ≡ true

  pub at_atom : (a : ℕ) {p m : ℕ} → (kind words a ≡ 0 → ⊥) → first words a ≡ p → second words a ≡ m → atom_holds_at text words a ≡ is_atom_prefix (drop p text) m
  unfolding atom_holds_at
  at_atom a k f s = rw (ne_eqb (kind words a) 0 k, f, s)

  at_list : (a : ℕ) → kind words a ≡ 0 → atom_holds_at text words a ≡ true
  unfolding atom_holds_at
  at_list a k = rw (eq-eqb (kind words a) 0 k)

  mutual
    unfolding size sizes table_at tables lies lies_all atoms_hold atoms_hold_all

    node_each : (d : ℕ) (n : Node) (a : ℕ) (rest : List ℕ) → drop (4 * a) words ≡ table_at d n ++ rest → lies text n ≡ true → atoms_hold text n ≡ true → Each a (a + size n)
    node_each d (atom w p m) a rest e t h k g o =
        let s = stands words a e in
        let z : a ≡ k = omega arith in
        rw z at (at_atom a (λ y. sits_kind text w p m t (sym s.kinds ∙ y)) s.firsts s.seconds ∙ h)
    node_each d (list c) a rest e t h k g o =
        let s = stands words a e in
        split (eqb a k)
        (λ z. rw (eqb-true a k z) at (at_list a s.kinds))
        (λ z. let other = eqb-false a k z in row_each 1 c (a + 1) rest s.after t h k (omega arith) (omega arith))

    row_each : (d : ℕ) (c : Nodes) (a : ℕ) (rest : List ℕ) → drop (4 * a) words ≡ tables d c ++ rest → lies_all text c ≡ true → atoms_hold_all text c ≡ true → Each a (a + sizes c)
    row_each d empty a rest e t h k g o = absurd (omega arith)
    row_each d (n then c) a rest e t h k g o =
        anded {a = lies text n} t λ lie others.
        anded {a = atoms_hold text n} h λ here more.
        let after = tables (d + size n) c ++ rest in
        let e' : drop (4 * a) words ≡ table_at d n ++ after = rw append_assoc at e in
        split (ltb k (a + size n))
        (λ z. node_each d n a after e' lie here k g (ltb-true k (a + size n) z))
        (λ z. row_each (d + size n) c (a + size n) rest (skip words d n a after e') others more k (ltb-false k (a + size n) z) (omega arith))

  mutual
    unfolding size sizes table_at tables lies lies_all atoms_hold atoms_hold_all

    node_all : (d : ℕ) (n : Node) (a : ℕ) (rest : List ℕ) → drop (4 * a) words ≡ table_at d n ++ rest → lies text n ≡ true → Each a (a + size n) → atoms_hold text n ≡ true
    node_all d (atom w p m) a rest e t h =
        let s = stands words a e in
        sym (at_atom a (λ y. sits_kind text w p m t (sym s.kinds ∙ y)) s.firsts s.seconds) ∙ h a (omega arith) (omega arith)
    node_all d (list c) a rest e t h = row_all 1 c (a + 1) rest (stands words a e).after t (λ k g o. h k (omega arith) (omega arith))

    row_all : (d : ℕ) (c : Nodes) (a : ℕ) (rest : List ℕ) → drop (4 * a) words ≡ tables d c ++ rest → lies_all text c ≡ true → Each a (a + sizes c) → atoms_hold_all text c ≡ true
    row_all d empty a rest e t h = refl
    row_all d (n then c) a rest e t h =
        anded {a = lies text n} t λ lie others.
        let after = tables (d + size n) c ++ rest in
        let e' : drop (4 * a) words ≡ table_at d n ++ after = rw append_assoc at e in
        both _ _ (node_all d n a after e' lie (λ k g o. h k g (omega arith)))
        (row_all (d + size n) c (a + size n) rest (skip words d n a after e') others (λ k g o. h k (omega arith) (omega arith)))

  module _ {n : Node} (d : decide text words ≡ some n) where
    its : Held text words n
    its = holds_here text words d

    -- the nodes of the tree, if their atoms hold
    pub tree_each : atoms_hold text n ≡ true → Each 0 (span words 0)
    tree_each h k g o = node_each (second words 0) n 0 (drop (4 * size n) words) (holds_words its.holds) its.holds.in_text h k g (omega (arith, its.spans))

    -- and back
    pub tree_all : Each 0 (span words 0) → atoms_hold text n ≡ true
    tree_all h = node_all (second words 0) n 0 (drop (4 * size n) words) (holds_words its.holds) its.holds.in_text (λ k g o. h k g (omega (arith, its.spans)))

    -- a node whose atom does not hold
    pub tree_fails : (k : ℕ) → k < span words 0 → atom_holds_at text words k ≡ false → atoms_hold text n ≡ false
    tree_fails k o f = split (atoms_hold text n) (λ e. absurd (false≢true (sym f ∙ tree_each e k (omega arith) o))) (λ e. e)
