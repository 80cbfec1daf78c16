-- The state of the counting loop, and how each item takes it on: the number of open lists stands for the lists themselves.
-- Assumes nothing.
use Prim.Native.Nat.{ℕ, ◌+◌, ◌-◌, ◌≤◌}
use native.Mathlib.Omega.{arith}
use mathlib.Core.Path.{◌≡◌, refl, sym, ap, ◌∙◌}
use mathlib.Core.List.{List}
use Rattle.sise_parser.specs.Refusals.{Refusal}
use Rattle.sise_parser.specs.Reader.{item, refused, next, next_item}
use Rattle.sise_parser.specs.declared.reader.Reader.{Reader}
use Rattle.sise_parser.specs.declared.reader.ParsedItem.{ParsedItem}
use Rattle.sise_parser.specs.declared.reader.ParsedItem.TheVariants.{Atom, ListStart, ListEnd}
use Rattle.sise_tree.specs.Tree.{kind_at, Node, atom, list, empty, size, sizes}
use Rattle.sise_tree.specs.Answers as answers
use Rattle.sise_tree.specs.Answers.{parsed_as}
use Rattle.sise_tree.specs.ParseTree.{Frames, top, ◌▹◌, inside, whole, snoc, attach, close, turn, read_stage, read_node}
use Rattle.sise_tree.specs.Filling.{opened, filled, filled_in, Counts, DoesCount, counted, reader_of}
use Rattle.std.specs.Prelude.{Result, Ok, Err}
use Rattle.sise_tree.specs.declared.parse.TreeError.{TreeError}
use Rattle.sise_tree.specs.declared.parse.TreeError.TheVariants.{UnexpectedListEnd}
use Rattle.sise_tree.proofs.ReadSteps.{took, read_refused}
use Rattle.sise_tree.proofs.ParseSteps.{stands_none, turned, stands_on}
use Rattle.sise_tree.proofs.FillingLaws.{attach_filled}

opened_le : (f : Frames) → opened f ≤ filled f
unfolding opened filled
opened_le top = omega arith
opened_le (f ▹ c) = omega (arith, opened_le f)

-- a node is attached inside a list, or is the whole
pub attach_in : {C : Type 0} (f : Frames) (n : Node) → (opened f ≡ 0 → ⊥) → ((g : Frames) → attach f n ≡ inside g → opened g ≡ opened f → C) → C
unfolding attach opened
attach_in top n d k = absurd (d refl)
attach_in (f ▹ c) n d k = k (f ▹ snoc c n) refl refl

attach_out : (f : Frames) (n : Node) → opened f ≡ 0 → (attach f n ≡ whole n) × (filled f ≡ 0)
unfolding attach opened filled
attach_out top n d = (refl, refl)
attach_out (f ▹ c) n d = absurd (omega arith)

module _ (text : List ℕ) (r₀ : Reader) where
  pub counts_none : Counts text r₀ top r₀ 0 0
  unfolding filled
  counts_none = record { stands = stands_none text r₀; many = refl; early = omega arith }

  -- where it is known what the item makes of the open lists
  module _ {f : Frames} {r : Reader} {depth nodes : ℕ} (h : Counts text r₀ f r depth nodes) {q : Reader} {i : ParsedItem} (e : next_item text r ≡ next q (item i)) where
    ends : {n : Node} {k : ℕ} → turn text f i ≡ whole n → k ≡ size n → DoesCount (read_node text r₀) q (Ok k)
    unfolding read_stage
    ends t z = let x = turned text r₀ h.stands e t in record { reader = ap reader_of x; answer = ap answers.answered z ∙ ap counted x }

    goes : {g : Frames} {d k : ℕ} → turn text f i ≡ inside g → d ≡ opened g → k ≡ filled g → k ≤ nodes + 1 → Counts text r₀ g q d k
    goes t dz kz le = record { stands = stands_on text r₀ h.stands e t dz; many = kz; early = omega (arith, h.early, (took text r e).moves) }

  module _ {f : Frames} {r : Reader} {depth nodes : ℕ} (h : Counts text r₀ f r depth nodes) where
    pub depth_le : depth ≤ nodes
    depth_le = omega (arith, h.stands.deep, h.many, opened_le f)

    pub refused_ends :
        {q : Reader} {x : Refusal} {a : Result ℕ TreeError} → next_item text r ≡ next q (refused x) → parsed_as a ≡ answers.refused x
        → DoesCount (read_node text r₀) q a
    refused_ends e d =
        let z = sym (read_refused text r f e) ∙ h.stands.reads in
        record { reader = ap reader_of z; answer = d ∙ ap counted z }

    pub start_goes : {q : Reader} {p : ℕ} → next_item text r ≡ next q (item (ListStart p)) → (g : Frames) × Counts text r₀ g q (depth + 1) (nodes + 1)
    unfolding turn opened filled sizes
    start_goes e = (f ▹ empty, goes h e refl (omega (arith, h.stands.deep)) (omega (arith, h.many)) (omega arith))

    module _ {q : Reader} {p n : ℕ} (e : next_item text r ≡ next q (item (Atom p n))) where
      pub atom_ends : depth ≡ 0 → DoesCount (read_node text r₀) q (Ok (nodes + 1))
      unfolding turn size
      atom_ends z = let (t, none) = attach_out f (atom (kind_at text p n) p n) (sym h.stands.deep ∙ z) in ends h e t (omega (arith, h.many))

      pub atom_goes : (depth ≡ 0 → ⊥) → (g : Frames) × Counts text r₀ g q depth (nodes + 1)
      unfolding turn size filled_in
      atom_goes z =
          attach_in f (atom (kind_at text p n) p n) (λ d. z (h.stands.deep ∙ d)) λ g t o.
          let m : filled g ≡ filled f + 1 = ap filled_in (sym t) ∙ attach_filled f (atom (kind_at text p n) p n) in
          (g, goes h e t (h.stands.deep ∙ sym o) (omega (arith, h.many)) (omega arith))

  -- a list's end leaves a node that is attached where its list began
  pub close_ends :
      {f : Frames} {r : Reader} {depth nodes : ℕ} → Counts text r₀ f r depth nodes → {q : Reader} {p : ℕ} → next_item text r ≡ next q (item (ListEnd p))
      → depth ≡ 0 → DoesCount (read_node text r₀) q (Err (UnexpectedListEnd p))
  unfolding turn close opened read_stage
  close_ends {f = top} h e z = let x = turned text r₀ h.stands e refl in record { reader = ap reader_of x; answer = ap counted x }
  close_ends {f = f ▹ c} h e z = absurd (omega (arith, h.stands.deep))

  pub list_ends :
      {f : Frames} {r : Reader} {depth nodes : ℕ} → Counts text r₀ f r depth nodes → {q : Reader} {p : ℕ} → next_item text r ≡ next q (item (ListEnd p))
      → (depth ≡ 0 → ⊥) → depth - 1 ≡ 0 → DoesCount (read_node text r₀) q (Ok nodes)
  unfolding turn close opened filled size
  list_ends {f = top} h e z o = absurd (z h.stands.deep)
  list_ends {f = f ▹ c} h e z o = let (t, none) = attach_out f (list c) (omega (arith, h.stands.deep)) in ends h e t (omega (arith, h.many))

  pub list_goes :
      {f : Frames} {r : Reader} {depth nodes : ℕ} → Counts text r₀ f r depth nodes → {q : Reader} {p : ℕ} → next_item text r ≡ next q (item (ListEnd p))
      → (depth ≡ 0 → ⊥) → (depth - 1 ≡ 0 → ⊥) → (g : Frames) × Counts text r₀ g q (depth - 1) nodes
  unfolding turn close opened filled size filled_in
  list_goes {f = top} h e z o = absurd (z h.stands.deep)
  list_goes {f = f ▹ c} {depth = depth} h e z o =
      let d : depth - 1 ≡ opened f = omega (arith, h.stands.deep) in
      attach_in f (list c) (λ y. o (d ∙ y)) λ g t y.
      let m : filled g ≡ filled f + (1 + sizes c) = ap filled_in (sym t) ∙ attach_filled f (list c) in
      (g, goes h e t (d ∙ sym y) (h.many ∙ sym m) (omega arith))
