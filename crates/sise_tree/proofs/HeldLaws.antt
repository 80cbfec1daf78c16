-- What a node says of what a table holds, by the tests of the code; and the whole by its nodes.
-- Assumes nothing.
use Rattle.std.specs.Prelude.{is_some, Ok, Err}
use Prim.Native.Nat.{ℕ, ◌+◌, ◌-◌, ◌*◌, ◌/◌, ◌≤◌, ◌<◌}
use native.Mathlib.Omega.{arith}
use mathlib.Core.Path.{◌≡◌, refl, sym, ap, ◌∙◌}
use mathlib.Core.Bool.{Bool, true, false, cond, false≢true}
use mathlib.Core.Option.{Option as Maybe, none, some}
use mathlib.Core.List.{List}
use lib.Dec.{ltb}
use lib.ListN.{length, take, drop, length-drop}
use lib.Seq.{take_all}
use borrow.Author.Tests.{le-leb, lt-leb, eq-eqb, ne_eqb, ltb-true, ltb-false}
use Rattle.sise_util.specs.Atom.{kind_prefix}
use Rattle.sise_util.proofs.Ranges.{split}
use Rattle.sise_util.proofs.KindLaws.{kind_prefix_lem}
use Rattle.sise_tree.specs.Tree.{Node, atoms_hold, kind, first, second, span, fits_kind, sits, fills_in, good, HoldsTree}
use Rattle.sise_tree.specs.Parts.{good_in, atom_holds_at}
use Rattle.sise_tree.specs.Decision.{decide, is_some as decided}
use Rattle.sise_tree.specs.Held.{Held, held_if, held_as, is_tree}
use Rattle.sise_tree.specs.declared.tree.TableError.TheVariants.{NotATree, NoAtom}
use Rattle.sise_tree.proofs.LocalSteps.{good_outside, good_within, good_list, good_atom, good_long}
use Rattle.sise_tree.proofs.Shifts.{good_at, atom_at_lem}
use Rattle.sise_tree.proofs.LocalLaws as local
use Rattle.sise_tree.proofs.AtomsHold.{tree_all, tree_fails}

-- the two reasons are not one
other_reason : {A : Type 0} → ◌≡◌ {A = Held} (Err NoAtom) (Err NotATree) → A
other_reason e = let x : ◌≡◌ {A = ℕ} 0 1 = cc in absurd (omega arith)

-- ---- the first node

module _ (text words : List ℕ) where
  abbrev here : Held
  here = held_if (good_in text words 0) (atom_holds_at text words 0)

  pub held_short : length words / 4 ≤ 0 → Err NotATree ≡ here
  held_short h = rw (good_outside text words 0 h)

  module _ (within : 0 < length words / 4) where
    pub held_list : {b : Bool} → kind words 0 ≡ 0 → b ≡ fills_in words 0 (first words 0) 1 (span words 0) → held_if b true ≡ here
    unfolding atom_holds_at
    held_list {b} k e =
        let end : 0 + span words 0 ≡ span words 0 = omega arith in
        let its : b ≡ good text words 0 = e ∙ sym (rw end at (good_list text words 0 k)) in
        rw (good_within text words 0 within, its, eq-eqb (kind words 0) 0 k) refl

    module _ (k : kind words 0 ≡ 0 → ⊥) where
      pub held_long : (span words 0 ≡ 1 → ⊥) → Err NotATree ≡ here
      held_long f = rw (good_within text words 0 within, good_long text words 0 k f)

      module _ (one : span words 0 ≡ 1) where
        pub held_past : length text < first words 0 + second words 0 → Err NotATree ≡ here
        unfolding sits
        held_past h = rw (good_within text words 0 within, good_atom text words 0 k one, lt-leb (first words 0 + second words 0) (length text) h)

        pub held_atom :
            first words 0 + second words 0 ≤ length text
            → held_if (fits_kind (kind_prefix (drop (first words 0) text) (second words 0)) (kind words 0)) (is_some (kind_prefix (drop (first words 0) text) (second words 0))) ≡ here
        unfolding sits atom_holds_at
        held_atom h =
            rw (good_within text words 0 within, good_atom text words 0 k one, le-leb (first words 0 + second words 0) (length text) h, ne_eqb (kind words 0) 0 k, kind_prefix_lem (drop (first words 0) text) (second words 0))

-- "A subtree is the part of the table from its node": what is said of the first node there, is said of node i
pub held_part :
    (text words : List ℕ) (i : ℕ) {h : Held} → i < length words / 4
    → h ≡ held_if (good_in text (take (length words - 4 * i) (drop (4 * i) words)) 0) (atom_holds_at text (take (length words - 4 * i) (drop (4 * i) words)) 0)
    → h ≡ held_if (good text words i) (atom_holds_at text words i)
held_part text words i within e =
    rw (take_all (length words - 4 * i) (drop (4 * i) words) (omega (arith, length-drop (4 * i) words)), good_at words i within text, atom_at_lem words i within text) at e

-- ---- the whole

-- what a test of good and atoms says
pub held_ok : (g a : Bool) {h : Held} → h ≡ held_if g a → h ≡ Ok tt → (g ≡ true) × (a ≡ true)
held_ok true true e z = (refl, refl)
held_ok true false e z = absurd (false≢true (ap is_tree (sym e ∙ z)))
held_ok false a e z = absurd (false≢true (ap is_tree (sym e ∙ z)))

pub held_bad : (g a : Bool) {h : Held} → h ≡ held_if g a → h ≡ Err NotATree → g ≡ false
held_bad true true e z = absurd (false≢true (sym (ap is_tree (sym e ∙ z))))
held_bad true false e z = other_reason (sym e ∙ z)
held_bad false a e z = refl

pub held_flawed : (g a : Bool) {h : Held} → h ≡ held_if g a → h ≡ Err NoAtom → (g ≡ true) × (a ≡ false)
held_flawed true true e z = absurd (false≢true (sym (ap is_tree (sym e ∙ z))))
held_flawed true false e z = (refl, refl)
held_flawed false a e z = other_reason (sym (sym e ∙ z))

-- before each node: those passed are good, and whether each atom of them is one
pub record Passed (text words : List ℕ) (i : ℕ) (h : Held) : Type 0 where
  pub each : (k : ℕ) → k < i → good text words k ≡ true
  pub atoms : is_tree h ≡ true → (k : ℕ) → k < i → atom_holds_at text words k ≡ true
  pub fails : is_tree h ≡ false → (k : ℕ) × (k < i) × (atom_holds_at text words k ≡ false)
  pub tree : h ≡ Err NotATree → ⊥

pub passed_none : (text words : List ℕ) → Passed text words 0 (Ok tt)
passed_none text words = record {
  each = λ k o. absurd (omega arith);
  atoms = λ e k o. absurd (omega arith);
  fails = λ e. absurd (false≢true (sym e));
  tree = λ e. absurd (false≢true (sym (ap is_tree e)));
}

module _ {text words : List ℕ} {i : ℕ} {h : Held} (p : Passed text words i h) (fine : good text words i ≡ true) where
  last : {P : ℕ → Type 0} → ((k : ℕ) → k < i → P k) → P i → (k : ℕ) → k < i + 1 → P k
  last {P} h t k o = split (ltb k i) (λ z. h k (ltb-true k i z)) (λ z. let same : i ≡ k = omega (arith, ltb-false k i z) in rw same at t)

  -- an atom that is one changes nothing
  pub passed_on : atom_holds_at text words i ≡ true → Passed text words (i + 1) h
  passed_on e = record {
    each = last p.each fine;
    atoms = λ t. last (p.atoms t) e;
    fails = λ f. let (k, o, z) = p.fails f in (k, omega arith, z);
    tree = p.tree;
  }

  -- one that is none is why the whole is no tree of atoms
  pub passed_flawed : atom_holds_at text words i ≡ false → Passed text words (i + 1) (Err NoAtom)
  passed_flawed e = record {
    each = last p.each fine;
    atoms = λ t. absurd (false≢true t);
    fails = λ z. (i, omega arith, e);
    tree = λ z. other_reason z;
  }

module _ {text words : List ℕ} where
  pub held_none : (HoldsTree text words → ⊥) → Err NotATree ≡ held_as text (decide text words)
  unfolding decided
  held_none f = of (decide text words) (local.unsound_refuses text words f)
    where
      of : (d : Maybe Node) → decided d ≡ false → Err NotATree ≡ held_as text d
      of none e = refl
      of (some n) e = absurd (false≢true (sym e))

  pub held_all : {i : ℕ} {h : Held} → Passed text words i h → HoldsTree text words → span words 0 ≤ i → i ≤ span words 0 → h ≡ held_as text (decide text words)
  held_all {i} {h = Ok tt} p s end begun =
      let (n, d, h) = local.held text words (local.sound_decides text words s) in
      rw (d, tree_all text words d (λ k g o. p.atoms refl k (omega arith)))
  held_all {i} {h = Err NoAtom} p s end begun =
      let (n, d, h) = local.held text words (local.sound_decides text words s) in
      let (k, o, z) = p.fails refl in
      rw (d, tree_fails text words d k (omega arith) z)
  held_all {i} {h = Err NotATree} p s end begun = absurd (p.tree refl)

-- a tree or none, for a path
pub some_held : (text : List ℕ) (d : Maybe Node) {h : Held} → h ≡ held_as text d → (h ≡ Err NotATree → ⊥) → decided d ≡ true
unfolding decided
some_held text none e f = absurd (f e)
some_held text (some n) e f = refl

pub none_held : (text : List ℕ) (d : Maybe Node) {h : Held} → h ≡ held_as text d → h ≡ Err NotATree → decided d ≡ false
unfolding decided
none_held text none e z = refl
none_held text (some n) {h} e z = of (atoms_hold text n) e
  where
    of : (b : Bool) → h ≡ cond b (Ok tt) (Err NoAtom) → true ≡ false
    of true q = let y : ◌≡◌ {A = Held} (Ok tt) (Err NotATree) = sym q ∙ z in let x : ◌≡◌ {A = ℕ} 0 1 = cc in absurd (omega arith)
    of false q = let y : ◌≡◌ {A = Held} (Err NoAtom) (Err NotATree) = sym q ∙ z in let x : ◌≡◌ {A = ℕ} 0 1 = cc in absurd (omega arith)

-- what the answer says of the tree
pub tree_held : (text : List ℕ) (d : Maybe Node) {h : Held} → h ≡ held_as text d → h ≡ Ok tt → (n : Node) × (d ≡ some n) × (atoms_hold text n ≡ true)
tree_held text none {h} e z = absurd (false≢true (ap is_tree (sym e ∙ z)))
tree_held text (some n) {h} e z = (n, refl, of (atoms_hold text n) e)
  where
    of : (b : Bool) → h ≡ cond b (Ok tt) (Err NoAtom) → b ≡ true
    of true q = refl
    of false q = absurd (false≢true (ap is_tree (sym q ∙ z)))

pub flawed_held : (text : List ℕ) (d : Maybe Node) {h : Held} → h ≡ held_as text d → h ≡ Err NoAtom → (n : Node) × (d ≡ some n) × (atoms_hold text n ≡ false)
flawed_held text none {h} e z = let y : ◌≡◌ {A = Held} (Err NotATree) (Err NoAtom) = sym e ∙ z in let x : ◌≡◌ {A = ℕ} 0 1 = cc in absurd (omega arith)
flawed_held text (some n) {h} e z = (n, refl, of (atoms_hold text n) e)
  where
    of : (b : Bool) → h ≡ cond b (Ok tt) (Err NoAtom) → b ≡ false
    of true q = absurd (false≢true (sym (ap is_tree (sym q ∙ z))))
    of false q = refl
