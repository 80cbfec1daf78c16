-- A node's four words in a table: read, and written.
-- Assumes nothing.
use Prim.Native.Nat.{ℕ, suc, ◌+◌, ◌*◌, ◌≤◌}
use native.Mathlib.Nat.{zero-add, suc-add}
use native.Mathlib.Numerals.{add-one, add-two, add-three, add-four}
use native.Mathlib.Omega.{arith}
use mathlib.Core.Path.{◌≡◌, ap}
use mathlib.Core.List.{List, [], ◌∷◌, ◌++◌}
use lib.ListN.{length, get_or, drop, set}
use lib.Seq.{drop-cons, get_or-append-add}
use Rattle.sise_tree.specs.Tree.{kind, first, second, span}

-- a node's four words, and the words after it
pub four :
    (words : List ℕ) (a : ℕ) → 4 * (a + 1) ≤ length words
    → drop (4 * a) words ≡ kind words a ∷ first words a ∷ second words a ∷ span words a ∷ drop (4 * (a + 1)) words
four words a h = go (4 * a) (omega arith) (omega arith)
  where
    go : (i : ℕ) → i + 4 ≤ length words → i + 4 ≡ 4 * (a + 1)
        → drop i words ≡ get_or words i 0 ∷ get_or words (i + 1) 0 ∷ get_or words (i + 2) 0 ∷ get_or words (i + 3) 0 ∷ drop (4 * (a + 1)) words
    go i u e =
        rw (
          ← e,
          add-one i,
          add-two i,
          add-three i,
          add-four i,
          drop-cons words i 0 (omega arith),
          drop-cons words (suc i) 0 (omega arith),
          drop-cons words (suc (suc i)) 0 (omega arith),
          drop-cons words (suc (suc (suc i))) 0 (omega arith),
        )

-- at j past the first m
set-append_add : (xs ys : List ℕ) (j v : ℕ) → set (xs ++ ys) (length xs + j) v ≡ xs ++ set ys j v
set-append_add [] ys j v = rw (zero-add j)
set-append_add (x ∷ xs) ys j v = rw (suc-add (length xs) j) (ap (λ (l : List ℕ). x ∷ l) (set-append_add xs ys j v))

pub set_past : (xs ys : List ℕ) {m : ℕ} (j v : ℕ) → length xs ≡ m → set (xs ++ ys) (m + j) v ≡ xs ++ set ys j v
set_past xs ys j v e = rw (← e) (set-append_add xs ys j v)

pub get_d_past : (xs ys : List ℕ) {m : ℕ} (j : ℕ) → length xs ≡ m → get_or (xs ++ ys) (m + j) 0 ≡ get_or ys j 0
get_d_past xs ys j e = rw (← e) (get_or-append-add xs ys j 0)
