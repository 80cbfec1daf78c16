-- Where the reading of a node stands, and how an item takes it on.
-- Assumes nothing.
use Prim.Native.Nat.{ℕ, ◌+◌}
use native.Mathlib.Omega.{arith}
use mathlib.Core.Path.{◌≡◌, refl, sym, ap, ◌∙◌}
use mathlib.Core.Bool.{Bool, true, false, false≢true}
use mathlib.Core.List.{List}
use lib.ListN.{length}
use Rattle.sise_parser.specs.Reader.{reader, item, Next, next, next_item}
use Rattle.sise_parser.specs.declared.reader.Phase.{Phase}
use Rattle.sise_parser.specs.declared.reader.Phase.TheVariants.{Parsing}
use Rattle.sise_parser.specs.declared.reader.Reader.{Reader}
use Rattle.sise_parser.specs.declared.reader.ParsedItem.{ParsedItem}
use Rattle.sise_parser.specs.declared.reader.ParsedItem.TheVariants.{Atom, ListStart, ListEnd}
use Rattle.sise_tree.specs.Tree.{Node, list}
use Rattle.sise_tree.specs.Tree as tree
use Rattle.sise_tree.specs.ParseTree.{Frames, top, ◌▹◌, Stage, inside, whole, closes, attach, close, turn, read_stage, read_node}
use Rattle.sise_tree.specs.Filling.{opened, Stands}
use Rattle.sise_tree.proofs.ReadSteps.{sound_parsing, Took, took, read_on, read_item}

-- what an item makes of the number of open lists, the reader's and the node's
abbrev pub Opens : ParsedItem → ℕ → ℕ → Type 0
Opens (Atom p n) a b = b ≡ a
Opens (ListStart p) a b = b ≡ a + 1
Opens (ListEnd p) a b = b + 1 ≡ a

reader_opens : {text : List ℕ} {r q : Reader} (i : ParsedItem) → Took text r q i → Opens i r.lists q.lists
reader_opens (Atom p n) t = t.leaves.1
reader_opens (ListStart p) t = t.leaves.0
reader_opens (ListEnd p) t = t.leaves.0

abbrev opened_in : Stage → ℕ
opened_in (inside f) = opened f
opened_in (whole n) = 0
opened_in (closes p) = 0

abbrev is_inside : Stage → Bool
is_inside (inside f) = true
is_inside (whole n) = false
is_inside (closes p) = false

attach_opens : (f : Frames) (n : Node) {g : Frames} → attach f n ≡ inside g → opened g ≡ opened f
unfolding attach opened
attach_opens top n t = absurd (false≢true (ap is_inside t))
attach_opens (f ▹ c) n t = sym (ap opened_in t)

pub node_opens : (text : List ℕ) (f : Frames) (i : ParsedItem) {g : Frames} → turn text f i ≡ inside g → Opens i (opened f) (opened g)
unfolding turn close opened
node_opens text f (Atom p n) t = attach_opens f (tree.atom (tree.kind_at text p n) p n) t
node_opens text f (ListStart p) t = sym (ap opened_in t)
node_opens text top (ListEnd p) t = absurd (false≢true (ap is_inside t))
node_opens text (f ▹ c) (ListEnd p) t = ap (λ (k : ℕ). k + 1) (attach_opens f (list c) t)

-- a node that is not yet whole has a list open
attach_open : (f : Frames) (n : Node) {g : Frames} → attach f n ≡ inside g → opened g ≡ 0 → ⊥
unfolding attach opened
attach_open top n t z = false≢true (ap is_inside t)
attach_open (f ▹ c) n t z = omega (arith, ap opened_in t)

pub inside_open : (text : List ℕ) (f : Frames) (i : ParsedItem) {g : Frames} → turn text f i ≡ inside g → opened g ≡ 0 → ⊥
unfolding turn close opened
inside_open text f (Atom p n) t z = attach_open f (tree.atom (tree.kind_at text p n) p n) t z
inside_open text f (ListStart p) t z = omega (arith, ap opened_in t)
inside_open text top (ListEnd p) t z = false≢true (ap is_inside t)
inside_open text (f ▹ c) (ListEnd p) t z = attach_open f (list c) t z

both_open : (i : ParsedItem) (a b c d k : ℕ) → Opens i a b → Opens i c d → c ≡ k + a → d ≡ k + b
both_open (Atom p n) a b c d k x y z = omega arith
both_open (ListStart p) a b c d k x y z = omega arith
both_open (ListEnd p) a b c d k x y z = omega arith

module _ (text : List ℕ) (r₀ : Reader) where
  pub stands_none : Stands text r₀ top r₀ 0
  unfolding read_node opened
  stands_none = record { reads = refl; deep = refl; listed = omega arith; sound = λ d. absurd (d refl) }

  -- inside the node the reader is parsing, so that an item of the record with that phase is the next one
  pub inside_item :
      {f : Frames} {r : Reader} {depth : ℕ} → Stands text r₀ f r depth → (depth ≡ 0 → ⊥) → {x : Next} → next_item text (reader r.position Parsing r.lists) ≡ x → next_item text r ≡ x
  inside_item {r = r} h some e =
      let p = sound_parsing (length text) r (h.sound some) (omega (arith, h.listed, some)) in
      ap (λ (f : Phase). next_item text (reader r.position f r.lists)) p ∙ e

  module _ {f : Frames} {r : Reader} {depth : ℕ} (h : Stands text r₀ f r depth) {q : Reader} {i : ParsedItem} (e : next_item text r ≡ next q (item i)) where
    pub turned : {s : Stage} → turn text f i ≡ s → read_stage (read_on text q) q s ≡ read_node text r₀
    turned t = ap (read_stage (read_on text q) q) (sym t) ∙ sym (read_item text r f e) ∙ h.reads

    pub stands_on : {g : Frames} {d : ℕ} → turn text f i ≡ inside g → d ≡ opened g → Stands text r₀ g q d
    unfolding read_stage
    stands_on {g} t z =
        let k = took text r e in
        let l = both_open i (opened f) (opened g) r.lists q.lists r₀.lists (node_opens text f i t) (reader_opens i k) (h.listed ∙ ap (λ (d : ℕ). r₀.lists + d) h.deep) in
        record { reads = turned t; deep = z; listed = l ∙ ap (λ (d : ℕ). r₀.lists + d) (sym z); sound = λ d. k.stays }
