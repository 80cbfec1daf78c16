-- What the parts of the filling do to the words is what their contracts say.
-- Assumes nothing.
use Prim.Native.Nat.{ℕ, ◌+◌, ◌-◌, ◌*◌, ◌^◌, ◌≤◌, ◌<◌}
use native.Mathlib.Omega.{arith}
use mathlib.Core.Path.{◌≡◌, sym, ap, ◌∙◌}
use mathlib.Core.List.{List, ◌++◌}
use lib.ListN.{length, get_or, set, length-append}
use Rattle.sise_tree.specs.Tree.{list, Nodes, sizes, children, table_at}
use Rattle.sise_tree.specs.ParseTree.{Frames, top, ◌▹◌, attach}
use Rattle.sise_tree.specs.Filling.{filled, innermost, distance, render, render_in, Attachable, CanAttach, Attaches, Closable, CanClose, Closes}
use Rattle.sise_tree.proofs.FillingLaws.{children_le, length-render, next_at, count_read, count_set, distance_read, close_set}

-- a child is counted, but for the root
pub attaches_none : (words : List ℕ) {parent child : ℕ} → child ≡ parent → Attaches words parent child words
unfolding filled innermost distance render render_in attach
attaches_none words z top n rest h = h.shown
attaches_none words z (f ▹ c) n rest h = absurd (omega (arith, h.parents, h.nexts))

-- a list that is to count one has the words that it is asked for, and a count that can grow
pub record Counting (words : List ℕ) (parent : ℕ) : Type 0 where
  pub within : 4 * (parent + 1) ≤ length words
  pub small : get_or words (4 * parent + 1) 0 + 1 < 2 ^ 32

pub counting : (words : List ℕ) {parent child : ℕ} → (child ≡ parent → ⊥) → CanAttach words parent child → Counting words parent
unfolding filled innermost distance
counting words other (top, n, rest, h) = absurd (other (h.nexts ∙ sym h.parents))
counting words {parent} other (f ▹ c, n, rest, h) =
    let after = table_at (1 + sizes c) n ++ rest in
    let g : get_or words (4 * parent + 1) 0 ≡ children c = rw (h.parents, h.shown) (count_read f c after) in
    record {
      within = omega (arith, h.parents, ap length h.shown, length-append (render (f ▹ c)) after, length-render (f ▹ c));
      small = omega (arith, h.small, children_le c);
    }

pub attaches_set :
    (words : List ℕ) {parent child i : ℕ} → (child ≡ parent → ⊥) → i ≡ parent
    → Attaches words parent child (set words (4 * i + 1) (get_or words (4 * i + 1) 0 + 1))
unfolding filled innermost distance render_in attach
attaches_set words other is top n rest h = absurd (other (h.nexts ∙ sym h.parents))
attaches_set words other is (f ▹ c) n rest h =
    rw (is ∙ h.parents, h.shown, count_read f c (table_at (1 + sizes c) n ++ rest)) (count_set f c n rest)

-- a list is closed: where it begins and ends, and how far back its parent is
pub record Closing (words : List ℕ) (next parent : ℕ) : Type 0 where
  pub early : parent < next
  pub within : 4 * next ≤ length words
  pub back : get_or words (4 * parent + 2) 0 ≤ parent

pub closing : (words : List ℕ) {next parent : ℕ} → CanClose words next parent → Closing words next parent
unfolding filled innermost
closing words {next} {parent} (f, c, rest, h) =
    let g : get_or words (4 * parent + 2) 0 ≡ distance f = rw (h.parents, h.shown) (distance_read f c rest) in
    record {
      early = omega (arith, h.parents, h.nexts);
      within = omega (arith, h.nexts, ap length h.shown, length-append (render (f ▹ c)) rest, length-render (f ▹ c));
      back = omega (arith, h.parents, next_at f);
    }

module _ (words : List ℕ) {next parent i : ℕ} (is : i ≡ parent) where
  pub closed_attachable :
      (f : Frames) (c : Nodes) (rest : List ℕ) → Closable words next parent f c rest
      → Attachable (set words (4 * i + 3) (next - parent)) (parent - get_or words (4 * i + 2) 0) parent f (list c) rest
  unfolding filled innermost
  closed_attachable f c rest h =
      let q : i ≡ filled f = is ∙ h.parents in
      let z : next - parent ≡ 1 + sizes c = omega (arith, h.parents, h.nexts) in
      let g : get_or words (4 * i + 2) 0 ≡ distance f = rw (q, h.shown) (distance_read f c rest) in
      record {
        shown = rw (z, q, h.shown) (close_set f c rest);
        parents = omega (arith, h.parents, next_at f);
        nexts = h.parents;
        small = omega (arith, h.nexts, h.small);
      }

  pub closes_set :
      {now : List ℕ} → Attaches (set words (4 * i + 3) (next - parent)) (parent - get_or words (4 * i + 2) 0) parent now
      → Closes words next parent (parent - get_or words (4 * i + 2) 0) now
  closes_set a f c rest h = let k = closed_attachable f c rest h in (k.parents, a f (list c) rest k)
