-- What the private functions of the trees do.
-- Assumes nothing.
use Rattle.std.specs.Prelude.{ℕ, ◌+◌, ◌-◌, ◌/◌, ◌≡◌, Bool, true, ◌&&◌, cond, List, ltb, eqb, length, drop}
use Rattle.sise_util.specs.Atom.{is_atom_prefix}
use Rattle.sise_tree.specs.Tree.{kind, first, second, fills_in, good}

-- from node i on, so many children of a list, whichever it is, fill it up to node e exactly if the last of them do, after r of them with the span 1
abbrev pub SameFrom : List ℕ → ℕ → ℕ → ℕ → ℕ → Type 0
SameFrom words c i e r = (p : ℕ) → fills_in words p (c - r) (i + r) e ≡ fills_in words p c i e

-- node i is in the table, and good
unfoldable pub good_in : List ℕ → List ℕ → ℕ → Bool
good_in text words i = ltb i (length words / 4) && good text words i

-- node i, if an atom, is one
unfoldable pub atom_holds_at : List ℕ → List ℕ → ℕ → Bool
atom_holds_at text words i = cond (eqb (kind words i) 0) true (is_atom_prefix (drop (first words i) text) (second words i))
