-- How the words of open lists change as a node is put, counted and closed.
-- Assumes nothing.
use Prim.Native.Nat.{ℕ, ◌+◌, ◌*◌, ◌≤◌}
use native.Mathlib.Nat.{add-zero}
use native.Mathlib.Omega.{arith}
use mathlib.Core.Path.{◌≡◌, refl, sym, ap, ◌∙◌}
use mathlib.Core.List.{List, ◌∷◌, ◌++◌, append_assoc, append-nil}
use lib.ListN.{length, get_or, take, drop, set, length-append, take-append-drop}
use lib.Seq.{take_at, drop-append-add, set_at, length-take-le}
use Rattle.sise_tree.specs.Tree.{Node, list, Nodes, empty, ◌then◌, size, sizes, children, table_at, tables, kind, first, second, span}
use Rattle.sise_tree.specs.ParseTree.{Frames, top, ◌▹◌, snoc, attach}
use Rattle.sise_tree.specs.Filling.{filled, innermost, distance, render, filled_in, innermost_in, put_at}
use Rattle.sise_tree.proofs.TreeLaws.{length-tables, size_pos}
use Rattle.sise_tree.proofs.Rows.{four, set_past, get_d_past}

pub children_le : (c : Nodes) → children c ≤ sizes c
unfolding children sizes
children_le empty = omega arith
children_le (n then c) = omega (arith, children_le c, size_pos n)

children_snoc : (c : Nodes) (n : Node) → children (snoc c n) ≡ children c + 1
unfolding snoc children
children_snoc empty n = refl
children_snoc (m then c) n = omega (arith, children_snoc c n)

sizes_snoc : (c : Nodes) (n : Node) → sizes (snoc c n) ≡ sizes c + size n
unfolding snoc sizes
sizes_snoc empty n = omega arith
sizes_snoc (m then c) n = omega (arith, sizes_snoc c n)

tables_snoc : (d : ℕ) (c : Nodes) (n : Node) → tables d (snoc c n) ≡ tables d c ++ table_at (d + sizes c) n
unfolding snoc sizes tables
tables_snoc d empty n = rw (add-zero d) (append-nil (table_at d n))
tables_snoc d (m then c) n =
    let z : d + size m + sizes c ≡ d + (size m + sizes c) = omega arith in
    rw (tables_snoc (d + size m) c n, z) (sym (append_assoc (table_at d m) (tables (d + size m) c) (table_at (d + (size m + sizes c)) n)))

pub length-render : (f : Frames) → length (render f) ≡ 4 * filled f
unfolding render filled
length-render top = refl
length-render (f ▹ c) = omega (arith, length-append (render f) (0 ∷ children c ∷ distance f ∷ 0 ∷ tables 1 c), length-render f, length-tables 1 c)

-- where the next node comes, and how far that is behind the innermost open list
pub next_at : (f : Frames) → filled f ≡ innermost f + distance f
unfolding filled innermost distance
next_at top = refl
next_at (f ▹ c) = refl

-- a node that is attached: its size is added, and the open lists stay
pub attach_filled : (f : Frames) (n : Node) → filled_in (attach f n) ≡ filled f + size n
unfolding attach filled_in filled
attach_filled top n = omega arith
attach_filled (f ▹ c) n = omega (arith, sizes_snoc c n)

pub attach_innermost : (f : Frames) (n : Node) → innermost_in (attach f n) ≡ innermost f
unfolding attach innermost_in innermost
attach_innermost top n = refl
attach_innermost (f ▹ c) n = refl

-- the innermost list's words, with those after them
render_more : (f : Frames) (c : Nodes) (rest : List ℕ) → render (f ▹ c) ++ rest ≡ render f ++ (0 ∷ children c ∷ distance f ∷ 0 ∷ (tables 1 c ++ rest))
unfolding render
render_more f c rest = append_assoc (render f) (0 ∷ children c ∷ distance f ∷ 0 ∷ tables 1 c) rest

-- its count is read, and one more
pub count_read : (f : Frames) (c : Nodes) (rest : List ℕ) → get_or (render (f ▹ c) ++ rest) (4 * filled f + 1) 0 ≡ children c
count_read f c rest = rw (render_more f c rest) (get_d_past (render f) (0 ∷ children c ∷ distance f ∷ 0 ∷ (tables 1 c ++ rest)) 1 (length-render f))

pub count_set :
    (f : Frames) (c : Nodes) (n : Node) (rest : List ℕ)
    → set (render (f ▹ c) ++ (table_at (1 + sizes c) n ++ rest)) (4 * filled f + 1) (children c + 1) ≡ render (f ▹ snoc c n) ++ rest
count_set f c n rest =
    let its = table_at (1 + sizes c) n in
    rw (render_more f c (its ++ rest), render_more f (snoc c n) rest, children_snoc c n, tables_snoc 1 c n, append_assoc (tables 1 c) its rest)
    (set_past (render f) (0 ∷ children c ∷ distance f ∷ 0 ∷ (tables 1 c ++ (its ++ rest))) 1 (children c + 1) (length-render f))

-- a list is closed
pub distance_read : (f : Frames) (c : Nodes) (rest : List ℕ) → get_or (render (f ▹ c) ++ rest) (4 * filled f + 2) 0 ≡ distance f
distance_read f c rest = rw (render_more f c rest) (get_d_past (render f) (0 ∷ children c ∷ distance f ∷ 0 ∷ (tables 1 c ++ rest)) 2 (length-render f))

pub close_set :
    (f : Frames) (c : Nodes) (rest : List ℕ)
    → set (render (f ▹ c) ++ rest) (4 * filled f + 3) (1 + sizes c) ≡ render f ++ (table_at (distance f) (list c) ++ rest)
unfolding table_at
close_set f c rest =
    rw (render_more f c rest) (set_past (render f) (0 ∷ children c ∷ distance f ∷ 0 ∷ (tables 1 c ++ rest)) 3 (1 + sizes c) (length-render f))

-- a node is put after the others
pub put_set :
    (f : Frames) (k a b s : ℕ) (rest : List ℕ) → put_at (render f ++ rest) (filled f) k a b s ≡ render f ++ (k ∷ a ∷ b ∷ s ∷ drop 4 rest)
unfolding put_at
put_set f k a b s rest =
    let z : 4 * (filled f + 1) ≡ length (render f) + 4 = omega (arith, length-render f) in
    rw (z, drop-append-add (render f) rest 4, take_at (render f) rest (4 * filled f) (length-render f))

pub put_four :
    (words : List ℕ) (i k a b s : ℕ) → 4 * (i + 1) ≤ length words
    → set (set (set (set words (4 * i) k) (4 * i + 1) a) (4 * i + 2) b) (4 * i + 3) s ≡ put_at words i k a b s
unfolding put_at
put_four words i k a b s h =
    ap (λ (l : List ℕ). set (set (set (set l (4 * i) k) (4 * i + 1) a) (4 * i + 2) b) (4 * i + 3) s) whole
    ∙ go (take (4 * i) words) (kind words i) (first words i) (second words i) (span words i) (drop (4 * (i + 1)) words) (length-take-le (4 * i) words (omega arith))
  where
    whole : words ≡ take (4 * i) words ++ (kind words i ∷ first words i ∷ second words i ∷ span words i ∷ drop (4 * (i + 1)) words)
    whole = sym (take-append-drop (4 * i) words) ∙ ap (λ (l : List ℕ). take (4 * i) words ++ l) (four words i h)

    go :
        (p : List ℕ) (w x y z : ℕ) (q : List ℕ) → length p ≡ 4 * i
        → set (set (set (set (p ++ (w ∷ x ∷ y ∷ z ∷ q)) (4 * i) k) (4 * i + 1) a) (4 * i + 2) b) (4 * i + 3) s ≡ p ++ (k ∷ a ∷ b ∷ s ∷ q)
    go p w x y z q e =
        rw (
          set_at p w (x ∷ y ∷ z ∷ q) k (4 * i) e,
          set_past p (k ∷ x ∷ y ∷ z ∷ q) 1 a e,
          set_past p (k ∷ a ∷ y ∷ z ∷ q) 2 b e,
          set_past p (k ∷ a ∷ b ∷ z ∷ q) 3 s e,
        )
