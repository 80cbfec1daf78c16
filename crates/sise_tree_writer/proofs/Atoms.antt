-- The nodes of a table that was checked: each is in the table, and each atom is one, in the text.
-- Assumes nothing.
use Prim.Native.Nat.{ℕ, ◌+◌, ◌*◌, ◌≤◌, ◌<◌}
use native.Mathlib.Omega.{arith}
use mathlib.Core.Path.{◌≡◌, refl, sym, ◌∙◌}
use mathlib.Core.Bool.{true}
use mathlib.Core.List.{List}
use lib.Dec.{leb, eqb}
use lib.ListN.{length}
use borrow.Author.Tests.{leb-true, ne_eqb}
use Rattle.sise_util.proofs.Ranges.{and_first, and_second}
use Rattle.sise_util.specs.Atom.{is_atom}
use Rattle.sise_parser.specs.Reader.{part_of}
use Rattle.sise_tree.specs.Tree.{kind, first, second, span, sits, good}
use Rattle.sise_tree.specs.Decision.{decide, is_some}
use Rattle.sise_tree.proofs.TreeLaws.{size_pos}
use Rattle.sise_tree.proofs.LocalLaws.{held}
use Rattle.sise_tree.proofs.AtomsHold.{at_atom, tree_each}
use Rattle.sise_tree_writer.specs.Writing.{Checked}
use Rattle.sise_tree_writer.proofs.CallLaws.{checked_atom}

module _ (text words : List ℕ) where
  -- the first node is in the table
  pub root_there : is_some (decide text words) ≡ true → 3 < length words
  root_there h = let (n, d, i) = held text words h in omega (arith, i.fits, size_pos n)

  -- a node of the tree is in the table
  pub node_there : is_some (decide text words) ≡ true → (k : ℕ) → k < span words 0 → 4 * (k + 1) ≤ length words
  node_there h k o = let (n, d, i) = held text words h in omega (arith, i.fits, i.spans)

  -- and if it is no list it lies in the text
  pub atom_there : is_some (decide text words) ≡ true → (k : ℕ) → k < span words 0 → (kind words k ≡ 0 → ⊥) → first words k + second words k ≤ length text
  unfolding good sits
  atom_there h k o f =
      let (n, d, i) = held text words h in
      leb-true _ _ (and_first (leb (first words k + second words k) (length text)) _ (and_second (eqb (span words k) 1) _ (rw (ne_eqb (kind words k) 0 f) at (i.tree.each k o))))

  -- its bytes were checked
  pub atom_good : Checked text words → (k : ℕ) → k < span words 0 → (kind words k ≡ 0 → ⊥) → is_atom (part_of text (first words k) (second words k)) ≡ true
  atom_good c k o f =
      let (n, d, i) = held text words c.holds in
      checked_atom text (first words k) (second words k) (sym (at_atom text words k f refl refl) ∙ tree_each text words d (c.atoms n d) k (omega arith) o)
