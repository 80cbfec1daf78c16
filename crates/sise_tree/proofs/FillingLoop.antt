-- The filling loop comes to the node that was counted: each item fits, since the words so far are fewer than the node's.
-- Assumes nothing.
use Prim.Native.Nat.{ℕ, suc, ◌*◌, ◌≤◌}
use native.Mathlib.Omega.{arith}
use mathlib.Core.Path.{◌≡◌, refl, sym, ap, ◌∙◌, subst}
use mathlib.Core.List.{List, ◌++◌}
use lib.ListN.{length, drop}
use Rattle.sise_parser.specs.Refusals.{Refusal}
use Rattle.sise_parser.specs.Reader.{item, refused, next, next_item}
use Rattle.sise_parser.specs.declared.reader.Reader.{Reader}
use Rattle.sise_parser.specs.declared.reader.ParsedItem.{ParsedItem}
use Rattle.sise_parser.specs.declared.reader.ParsedItem.TheVariants.{Atom, ListStart, ListEnd}
use Rattle.sise_tree.specs.Tree.{kind_at, Node, atom, list, size}
use Rattle.sise_tree.specs.ParseTree.{Frames, top, ◌▹◌, Stage, inside, closes, close, turn, ReadNode, got, read_stage, filled_with}
use Rattle.sise_tree.specs.Filling.{opened, filled, innermost, render, filled_in, innermost_in, render_in, Shows, LiesIn, Fits, Fillable, Fills, DoesFill}
use Rattle.sise_tree.specs.declared.parse.Mark.{Mark}
use Rattle.sise_tree.proofs.ReadSteps.{Took, took, read_on, read_refused, node_in, stopped_got, stage_got, Leads, leads}
use Rattle.sise_tree.proofs.ParseSteps.{inside_open, stands_none, turned, stands_on}
use Rattle.sise_tree.proofs.ParseLaws.{at_most_bytes, read_lists}
use Rattle.sise_tree.proofs.FillingLaws.{attach_filled}

-- no item takes a node away
turn_grows : (text : List ℕ) (f : Frames) (i : ParsedItem) → filled f ≤ filled_in (turn text f i)
unfolding turn close filled_in filled size
turn_grows text f (Atom p n) = omega (arith, attach_filled f (atom (kind_at text p n) p n))
turn_grows text f (ListStart p) = omega arith
turn_grows text top (ListEnd p) = omega arith
turn_grows text (f ▹ c) (ListEnd p) = omega (arith, attach_filled f (list c))

grows : (text : List ℕ) {n : Node} {q : Reader} → Leads text n q (λ f r. filled f ≤ size n)
unfolding filled_in
grows text =
    record {
      ended = λ f r i e t. let z = ap filled_in t in omega (arith, turn_grows text f i);
      went = λ f g r s i e t h. let z = ap filled_in t in omega (arith, turn_grows text f i);
    }

module _ (text w₀ : List ℕ) (r₀ : Reader) where
  pub fills_none : Fills text w₀ r₀ top r₀ 0 w₀ (record { next = 0; parent = 0 })
  unfolding filled filled_in innermost innermost_in render render_in
  fills_none = record { stands = stands_none text r₀; shows = record { shown = refl; nexts = refl; parents = refl }; same = refl }

  module _ {n : Node} {q₀ : Reader} (k : Fillable text r₀ w₀ n q₀) {f : Frames} {r : Reader} {depth : ℕ} {words : List ℕ} {m : Mark} (h : Fills text w₀ r₀ f r depth words m) where
    pub never_refused : {A : Type 0} {q : Reader} {x : Refusal} → next_item text r ≡ next q (refused x) → A
    never_refused e = stopped_got (sym (read_refused text r f e) ∙ h.stands.reads ∙ k.reads)

    module _ {q : Reader} {i : ParsedItem} (e : next_item text r ≡ next q (item i)) where
      got_on : {s : Stage} → turn text f i ≡ s → read_stage (read_on text q) q s ≡ got n q₀
      got_on t = turned text r₀ h.stands e t ∙ k.reads

      due : (p : ℕ) → turn text f i ≡ closes p → ⊥
      unfolding read_stage
      due p t = stopped_got (got_on t)

      small_size : filled_in (turn text f i) ≤ size n
      unfolding filled_in
      small_size =
          stage_got (turn text f i) (got_on refl)
          (λ g t more. let z = ap filled_in t in omega (arith, leads text (grows text) (suc (length text)) g q more))
          (λ t z. let z = ap filled_in t in omega arith)

      pub item_fits : Fits text (length words) f i
      item_fits =
          record {
            due = due;
            room = omega (arith, small_size, k.room, h.same);
            small = omega (arith, small_size, k.short, at_most_bytes text r₀ k.reads);
            lies = lies_in i (took text r e);
            short = omega (arith, k.short);
          }
        where
          lies_in : (j : ParsedItem) → Took text r q j → LiesIn text j
          lies_in (Atom p n) t = omega (arith, t.leaves.0, t.within)
          lies_in (ListStart p) t = tt
          lies_in (ListEnd p) t = tt

      module _ {now : List ℕ} {m' : Mark} (s : Shows w₀ (turn text f i) now m') where
        pub fill_ends : q.lists ≡ r₀.lists → DoesFill text r₀ w₀ now
        unfolding filled_with filled_in render_in
        fill_ends z l p d =
            stage_got (turn text f i) (got_on refl)
            (λ g t more. absurd (inside_open text f i t (omega (arith, z, (stands_on text r₀ h.stands e t refl).listed))))
            (λ t x.
            s.shown
            ∙ ap (λ (y : Stage). render_in y ++ drop (4 * filled_in y) w₀) t
            ∙ ap (λ (y : ReadNode). filled_with (node_in n y) w₀) (sym k.reads ∙ d))

        pub fill_on : {g : Frames} {d : ℕ} → turn text f i ≡ inside g → d ≡ opened g → length now ≡ length words → Fills text w₀ r₀ g q d now m'
        fill_on t z l = record { stands = stands_on text r₀ h.stands e t z; shows = subst (λ (x : Stage). Shows w₀ x now m') t s; same = l ∙ h.same }

        pub fill_goes : (q.lists ≡ r₀.lists → ⊥) → length now ≡ length words → (g : Frames) × Fills text w₀ r₀ g q (opened g) now m'
        fill_goes z l =
            stage_got (turn text f i) (got_on refl)
            (λ g t more. (g, fill_on t refl l))
            (λ t x. absurd (z (ap (λ (y : Reader). y.lists) x ∙ read_lists text r₀ k.reads)))
