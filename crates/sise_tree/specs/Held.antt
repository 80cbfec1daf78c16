-- What a table holds: a tree whose atoms are atoms, one with an atom that is none, or no tree.
-- Assumes nothing.
use Rattle.std.specs.Prelude.{Bool, true, false, cond, List, ℕ, Result, Ok, Err}
use Rattle.std.proofs.Math.Option.{Option, none, some}
use Rattle.sise_tree.specs.Tree.{Node, atoms_hold}
use Rattle.sise_tree.specs.declared.tree.TableError.{TableError}
use Rattle.sise_tree.specs.declared.tree.TableError.TheVariants.{NotATree, NoAtom}

-- a tree of atoms, or why not
abbrev pub Held : Type 0
Held = Result (Unit {0}) TableError

-- of two tests: whether it is a tree, and whether each atom of it is one
abbrev pub held_if : Bool → Bool → Held
held_if good atoms = cond good (cond atoms (Ok tt) (Err NoAtom)) (Err NotATree)

-- of the tree that the words are decided to hold
abbrev pub held_as : List ℕ → Option Node → Held
held_as text none = Err NotATree
held_as text (some n) = cond (atoms_hold text n) (Ok tt) (Err NoAtom)

abbrev pub is_tree : Held → Bool
is_tree (Ok u) = true
is_tree (Err e) = false
