-- The state of the filling, and how each item takes it on.
-- Assumes nothing.
use Prim.Native.Nat.{ℕ, ◌+◌, ◌-◌, ◌*◌, ◌/◌, ◌^◌, ◌≤◌, ◌<◌}
use native.Mathlib.Omega.{arith}
use mathlib.Core.Path.{◌≡◌, refl, sym, ap, ◌∙◌}
use mathlib.Core.List.{List, [], ◌∷◌, ◌++◌, append_assoc}
use lib.ListN.{length, drop}
use lib.Seq.{drop-drop}
use Rattle.sise_parser.specs.declared.reader.ParsedItem.TheVariants.{Atom, ListStart, ListEnd}
use Rattle.sise_tree.specs.Tree.{kind_at, atom, list, size, sizes, children, table_at, tables}
use Rattle.sise_tree.specs.ParseTree.{Frames, top, ◌▹◌, inside, attach, close, turn}
use Rattle.sise_tree.specs.Filling.{filled, innermost, distance, render, filled_in, innermost_in, render_in, put_at, Attachable, Attaches, CanClose, Closes, Shows, Fits}
use Rattle.sise_tree.specs.declared.parse.Mark.{Mark}
use Rattle.sise_tree.proofs.FillingLaws.{put_set, next_at, attach_filled, attach_innermost}

-- the words that are left, four fewer
step : (i : ℕ) (w₀ : List ℕ) → drop 4 (drop (4 * i) w₀) ≡ drop (4 * (i + 1)) w₀
step i w₀ = drop-drop 4 (4 * i) w₀ ∙ ap (λ (j : ℕ). drop j w₀) {x = 4 * i + 4} {y = 4 * (i + 1)} (omega arith)

module _ {w₀ words : List ℕ} {f : Frames} {m : Mark} (h : Shows w₀ (inside f) words m) where
  -- node i, which is the next, becomes these words
  put_shown : {i : ℕ} (k a b s : ℕ) → i ≡ m.next → put_at words i k a b s ≡ render f ++ (k ∷ a ∷ b ∷ s ∷ drop 4 (drop (4 * filled f) w₀))
  unfolding render_in filled_in
  put_shown k a b s e = rw (e, h.nexts, h.shown) (put_set f k a b s (drop (4 * filled f) w₀))

  -- an atom
  module _ {text : List ℕ} {p n : ℕ} (u : Fits text (length words) f (Atom p n)) where
    atom_grows : filled_in (turn text f (Atom p n)) ≡ filled f + 1
    unfolding turn size
    atom_grows = attach_filled f (atom (kind_at text p n) p n)

    pub atom_room : (m.next < length words / 4) × (m.next + 1 < 2 ^ 32)
    unfolding filled_in
    atom_room = (omega (arith, h.nexts, atom_grows, u.room), omega (arith, h.nexts, atom_grows, u.small))

    module _ {k g : ℕ} (e : k ≡ m.next) (its : g ≡ kind_at text p n) {put : List ℕ} (w : put ≡ put_at words k g p n 1) where
      pub atom_attachable : Attachable put m.parent m.next f (atom (kind_at text p n) p n) (drop 4 (drop (4 * filled f) w₀))
      unfolding filled_in innermost_in table_at
      atom_attachable =
          record {
            shown = w ∙ ap (λ (x : ℕ). put_at words k x p n 1) its ∙ put_shown (kind_at text p n) p n 1 e;
            parents = h.parents;
            nexts = h.nexts;
            small = omega (arith, atom_grows, u.small);
          }

      pub atom_turns : {now : List ℕ} → Attaches put m.parent m.next now → Shows w₀ (turn text f (Atom p n)) now (record { next = m.next + 1; parent = m.parent })
      unfolding turn filled_in innermost_in
      atom_turns a =
          record {
            shown =
                a f (atom (kind_at text p n) p n) _ atom_attachable
                ∙ ap (λ (l : List ℕ). render_in (turn text f (Atom p n)) ++ l) (step (filled f) w₀ ∙ ap (λ (j : ℕ). drop (4 * j) w₀) (sym atom_grows));
            nexts = ap (λ (j : ℕ). j + 1) h.nexts ∙ sym atom_grows;
            parents = h.parents ∙ sym (attach_innermost f (atom (kind_at text p n) p n));
          }

  -- a list's start
  module _ {text : List ℕ} {p : ℕ} (u : Fits text (length words) f (ListStart p)) where
    pub start_room : (m.next < length words / 4) × (m.next + 1 < 2 ^ 32)
    unfolding turn filled_in filled sizes
    start_room = (omega (arith, h.nexts, u.room), omega (arith, h.nexts, u.small))

    -- its distance
    pub start_back : (m.parent ≤ m.next) × (m.next - m.parent ≡ distance f)
    unfolding filled_in innermost_in
    start_back = (omega (arith, h.parents, h.nexts, next_at f), omega (arith, h.parents, h.nexts, next_at f))

    pub start_turns :
        {k : ℕ} → k ≡ m.next → {now : List ℕ} → now ≡ put_at words k 0 0 (m.next - m.parent) 0
        → Shows w₀ (turn text f (ListStart p)) now (record { next = m.next + 1; parent = m.next })
    unfolding turn filled_in filled innermost_in innermost render_in render sizes children tables
    start_turns e w =
        record {
          shown =
              w ∙ put_shown 0 0 (m.next - m.parent) 0 e
              ∙ ap (λ (k : ℕ). render f ++ (0 ∷ 0 ∷ k ∷ 0 ∷ drop 4 (drop (4 * filled f) w₀))) start_back.1
              ∙ ap (λ (l : List ℕ). render f ++ (0 ∷ 0 ∷ distance f ∷ 0 ∷ l)) (step (filled f) w₀)
              ∙ sym (append_assoc (render f) (0 ∷ 0 ∷ distance f ∷ 0 ∷ []) (drop (4 * (filled f + 1)) w₀));
          nexts = ap (λ (j : ℕ). j + 1) h.nexts;
          parents = h.nexts;
        }

-- a list's end
module _ {text w₀ words : List ℕ} {m : Mark} {p : ℕ} where
  pub end_closable : (f : Frames) → Shows w₀ (inside f) words m → Fits text (length words) f (ListEnd p) → CanClose words m.next m.parent
  unfolding turn close filled filled_in innermost_in render_in size
  end_closable top h u = absurd (u.due p refl)
  end_closable (f ▹ c) h u =
      (f, c, drop (4 * filled (f ▹ c)) w₀, record { shown = h.shown; nexts = h.nexts; parents = h.parents; small = omega (arith, h.nexts, attach_filled f (list c), u.small) })

  pub end_turns :
      (f : Frames) → Shows w₀ (inside f) words m → Fits text (length words) f (ListEnd p) → {r : Mark} {now : List ℕ}
      → r.next ≡ m.next → Closes words m.next m.parent r.parent now → Shows w₀ (turn text f (ListEnd p)) now r
  unfolding turn close filled_in innermost_in render_in filled size
  end_turns top h u b a = absurd (u.due p refl)
  end_turns (f ▹ c) h u b a =
      let z : filled_in (attach f (list c)) ≡ filled f + (1 + sizes c) = attach_filled f (list c) in
      let k = a f c (drop (4 * filled (f ▹ c)) w₀) (record { shown = h.shown; nexts = h.nexts; parents = h.parents; small = omega (arith, h.nexts, z, u.small) }) in
      record {
        shown = k.1 ∙ ap (λ (j : ℕ). render_in (attach f (list c)) ++ drop (4 * j) w₀) (sym z);
        nexts = b ∙ h.nexts ∙ sym z;
        parents = k.0 ∙ sym (attach_innermost f (list c));
      }
