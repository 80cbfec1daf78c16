-- How long a table is, and that words hold a tree exactly if they are its table, at any distance from a parent, and any words after it.
-- Assumes nothing.
use Rattle.std.specs.Prelude.{is_some, Option, Some, None}
use Prim.Native.Nat.{ℕ, ◌+◌, ◌*◌, ◌≤◌}
use native.Mathlib.Omega.{arith}
use mathlib.Core.Path.{◌≡◌, refl, sym, ap, ◌∙◌}
use mathlib.Core.Bool.{Bool, true, false, ◌&&◌, false≢true}
use mathlib.Core.List.{List, ◌++◌, append-nil}
use lib.ListN.{length, take, drop, length-append, length-take, length-drop, take-append-drop}
use lib.Seq.{take-append_seam}
use lib.Dec.{leb}
use borrow.Author.Tests.{eqb-true, leb-true, le-leb}
use Rattle.sise_util.specs.Atom.{Atom, kind_number, kind_prefix, is_atom_prefix}
use Rattle.sise_util.specs.declared.util.AtomKind.{AtomKind}
use Rattle.sise_util.specs.declared.util.AtomKind.TheVariants.{Plain, String, Mixed}
use Rattle.sise_util.proofs.Ranges.{and_first, and_second, both}
use Rattle.sise_util.proofs.AtomLaws.{atom_test}
use Rattle.sise_util.proofs.KindLaws.{kind_prefix_lem}
use Rattle.sise_tree.specs.Tree.{Node, atom, list, Nodes, empty, ◌then◌, size, sizes, children, table_at, table, tables, kind_at, fits_kind, sits, lies, lies_all, second, Holds}

-- both tests hold: go on with each
pub anded : {C : Type 0} {a b : Bool} → a && b ≡ true → (a ≡ true → b ≡ true → C) → C
anded {a = true} h k = k refl h
anded {a = false} h k = absurd (false≢true h)

-- an atom's first word is 1, 2 or 3
pub sits_kind : (text : List ℕ) (k p n : ℕ) → sits text k p n ≡ true → k ≡ 0 → ⊥
unfolding sits
sits_kind text k p n h z = of (kind_prefix (drop p text) n) (and_second (leb (p + n) (length text)) _ h)
  where
    of : (a : Option AtomKind) → fits_kind a k ≡ true → ⊥
    of (Some Plain) e = omega (arith, eqb-true k 1 e, z)
    of (Some String) e = omega (arith, eqb-true k 2 e, z)
    of (Some Mixed) e = omega (arith, eqb-true k 3 e, z)
    of None e = omega (arith, leb-true 1 k (and_first (leb 1 k) (leb k 3) e), z)

-- the kind of an atom is its own
fits_own : (a : Option AtomKind) → is_some a ≡ true → fits_kind a (kind_number a) ≡ true
fits_own (Some Plain) e = refl
fits_own (Some String) e = refl
fits_own (Some Mixed) e = refl
fits_own None e = absurd (false≢true e)

pub own_kind : (text : List ℕ) (p n : ℕ) → p + n ≤ length text → Atom (take n (drop p text)) → sits text (kind_at text p n) p n ≡ true
unfolding sits is_atom_prefix
own_kind text p n h a =
    both (leb (p + n) (length text)) _ (le-leb (p + n) (length text) h)
    (fits_own (kind_prefix (drop p text) n)
    (kind_prefix_lem (drop p text) n ∙ both (leb n (length (drop p text))) _ (le-leb n (length (drop p text)) (omega (arith, h, length-drop p text))) ((atom_test (take n (drop p text))).1 a)))

-- each atom of a node has such a word
unfoldable mutual
  pub Kinded : Node → Type 0
  Kinded (atom k p n) = k ≡ 0 → ⊥
  Kinded (list c) = KindedAll c

  pub KindedAll : Nodes → Type 0
  KindedAll empty = Unit {0}
  KindedAll (n then c) = Kinded n × KindedAll c

mutual
  unfolding lies lies_all Kinded KindedAll

  pub kinded : (text : List ℕ) (n : Node) → lies text n ≡ true → Kinded n
  kinded text (atom k p n) h = sits_kind text k p n h
  kinded text (list c) h = kinded_all text c h

  pub kinded_all : (text : List ℕ) (c : Nodes) → lies_all text c ≡ true → KindedAll c
  kinded_all text empty h = tt
  kinded_all text (n then c) h = (kinded text n (and_first (lies text n) _ h), kinded_all text c (and_second (lies text n) _ h))

mutual
  unfolding size sizes table_at tables

  -- four words a node
  pub length-table : (d : ℕ) (n : Node) → length (table_at d n) ≡ 4 * size n
  length-table d (atom k p n) = refl
  length-table d (list c) = omega (arith, length-tables 1 c)

  pub length-tables : (d : ℕ) (c : Nodes) → length (tables d c) ≡ 4 * sizes c
  length-tables d empty = refl
  length-tables d (n then c) =
      omega (arith, length-append (table_at d n) (tables (d + size n) c), length-table d n, length-tables (d + size n) c)

pub size_pos : (n : Node) → 1 ≤ size n
unfolding size sizes
size_pos (atom k p n) = omega arith
size_pos (list c) = omega arith

-- a list's third word is its distance; an atom's words do not depend on one
its_third : (d : ℕ) (n : Node) (rest : List ℕ) → table_at (second (table_at d n ++ rest) 0) n ≡ table_at d n
unfolding table_at
its_third d (atom k p n) rest = refl
its_third d (list c) rest = refl

-- "Words after the span aren't looked at"
pub words_after_lem : (l : List ℕ) (d : ℕ) (n : Node) (rest : List ℕ) → lies l n ≡ true → Holds l (table_at d n ++ rest) n
words_after_lem l d n rest t =
    record {
      begins =
          ap (λ (k : ℕ). take k (table_at d n ++ rest)) (length-table 0 n ∙ sym (length-table d n))
          ∙ take-append_seam (table_at d n) rest
          ∙ sym (its_third d n rest);
      in_text = t;
    }

pub spelt_holds : {l : List ℕ} {words : List ℕ} (d : ℕ) (n : Node) (rest : List ℕ) → words ≡ table_at d n ++ rest → lies l n ≡ true → Holds l words n
spelt_holds {l} d n rest e t = rw e (words_after_lem l d n rest t)

-- a row of one node
pub row_holds :
    {l : List ℕ} {words : List ℕ} (d : ℕ) (ns : Nodes) (rest : List ℕ) → children ns ≡ 1 → words ≡ tables d ns ++ rest → lies_all l ns ≡ true
    → (n : Node) × (ns ≡ n then empty) × Holds l words n
unfolding children tables lies_all
row_holds d empty rest one e t = absurd (omega arith)
row_holds d (n then empty) rest one e t = (n, refl, spelt_holds d n rest (rw (append-nil (table_at d n)) at e) (and_first _ _ t))
row_holds d (n then m then c) rest one e t = absurd (omega arith)

-- the other way: the words are the tree's and those after them
pub holds_words : {l : List ℕ} {words : List ℕ} {n : Node} → Holds l words n → words ≡ table_at (second words 0) n ++ drop (4 * size n) words
holds_words {words} {n} h = cc (h.begins, length-table 0 n, take-append-drop (4 * size n) words)

pub holds_fits : {l : List ℕ} {words : List ℕ} {n : Node} → Holds l words n → 4 * size n ≤ length words
holds_fits {words} {n} h = omega (arith, length-table 0 n, length-table (second words 0) n, ap length h.begins, length-take (length (table n)) words)
