-- Demand 3: between two writings of one list of items only layout differs. Each is read back whole, so both give the same items; the statement is
-- `only_layout_differs`.
-- Assumes nothing.
use Prim.Native.Nat.{ℕ, zero, suc, ◌-◌}
use native.Mathlib.Omega.{arith}
use mathlib.Core.Path.{◌≡◌, refl, sym, ap, ap₂, ◌∙◌}
use mathlib.Core.List.{List, [], ◌∷◌, ◌++◌, map}
use lib.ListN.{length, take, replicate}
use Rattle.sise_parser.specs.Reader.{refused_with}
use Rattle.sise_serializer.specs.Serializer.{Style, fresh_serializer}
use Rattle.sise_serializer.specs.declared.serializer.Phase.TheVariants.{Done}
use Rattle.sise_serializer.specs.declared.serializer.Serializer.{Serializer}
use Rattle.sise_serializer.specs.Calls.{Call, Item, atom, list_start, list_end, Placed, items_of, writing}
use Rattle.sise_layout.specs.Rules.{writes}
use Rattle.sise_layout.specs.Texts.{Finishes, text_of, Blank}
use Rattle.sise_layout.specs.Reading.{as_read, Stands, All, none, more, Gives, item_read, items_read}
use Rattle.sise_layout.specs.Claim.{Spells, Holds}
use Rattle.sise_serializer.specs.Examples.{house}
use Rattle.sise_layout.specs.Examples.{used, worked, worked_items, Shown, shown, at_4, at_5, at_4_finishes, at_5_finishes, house_blank}
use Rattle.sise_layout.proofs.Following.{follows_gives}
use Rattle.sise_layout.proofs.ReadBack.{follows}
use Rattle.sise_layout.proofs.Lengths.{its_length}
use Rattle.sise_layout.proofs.OneNode.{one_node}
use Rattle.sise_layout.proofs.Ended.{ends_done}
use Rattle.sise_layout.proofs.Buffers.{same_last, same_items, same_text}

-- what the answers to items say, places aside
module _ (text : List ℕ) where
  nothing_read : (m : ℕ) → items_read text (replicate m (refused_with 9)) ≡ []
  unfolding items_read item_read
  nothing_read zero = refl
  nothing_read (suc m) = nothing_read m

  item_read_lem : (p : Placed) → Stands text p → item_read text (as_read p) ≡ p.item ∷ []
  unfolding Stands item_read as_read
  item_read_lem p h = go p.item refl
    where
      go : (i : Item) → p.item ≡ i → item_read text (as_read p) ≡ p.item ∷ []
      go (atom a) e = rw (e, as_read) (ap (λ (l : List ℕ). atom l ∷ []) (rw (e, Stands) at h))
      go list_start e = rw (e, as_read)
      go list_end e = rw (e, as_read)

  all_read : {items : List Placed} → All (Stands text) items → (k m : ℕ) → items_read text (take k (map as_read items) ++ replicate m (refused_with 9)) ≡ take k (items_of items)
  unfolding items_read
  all_read none zero m = nothing_read m
  all_read none (suc k) m = nothing_read m
  all_read (more s t) zero m = nothing_read m
  all_read (more {a = p} s t) (suc k) m = ap₂ (λ (x y : List Item). x ++ y) (item_read_lem p s) (all_read t k m)

-- one writing
module _ (s : Style) (buffer : List ℕ) (cs : List Call) (finished : Finishes s buffer cs) where
  abbrev n : ℕ
  n = length buffer

  done : (writes s n fresh_serializer cs).last.phase ≡ Done
  done = ap (λ (w : Serializer). w.phase) (sym (same_last s buffer cs)) ∙ ends_done s buffer cs finished

  -- with any style
  pub any_style : Spells s (text_of (writing s buffer cs)) (writing s buffer cs).last (items_of (writing s buffer cs).items)
  any_style = record {
    node = rw (same_items s buffer cs) (one_node s n cs done);
    size = rw (same_text s buffer cs, same_items s buffer cs, same_last s buffer cs) (its_length s n cs done ∙ omega arith);
  }

  gives : Blank s → Gives (text_of (writing s buffer cs)) (writing s buffer cs).items
  gives blank = rw (same_text s buffer cs, same_items s buffer cs) (follows_gives _ (follows s blank n cs done))

  pub one_writing : Blank s → Holds s buffer cs (items_of (writing s buffer cs).items)
  one_writing blank = record {
    gives = gives blank;
    reads =
        λ k. ap (items_read (text_of (writing s buffer cs))) ((gives blank).answers k)
        ∙ all_read (text_of (writing s buffer cs)) (gives blank).bytes k (k - length (writing s buffer cs).items);
    spells = any_style;
  }

-- two writings, each with its own style, buffer and calls, thresholds among them, and the refused ones: if both are of these items, what is read from
-- either text is these items
pub only_layout_differs : (items : List Item)
    (s₁ : Style) (buffer₁ : List ℕ) (calls₁ : List Call) (s₂ : Style) (buffer₂ : List ℕ) (calls₂ : List Call)
    → Blank s₁ → Finishes s₁ buffer₁ calls₁ → items_of (writing s₁ buffer₁ calls₁).items ≡ items
    → Blank s₂ → Finishes s₂ buffer₂ calls₂ → items_of (writing s₂ buffer₂ calls₂).items ≡ items
    → Holds s₁ buffer₁ calls₁ items × Holds s₂ buffer₂ calls₂ items
only_layout_differs items s₁ b₁ c₁ s₂ b₂ c₂ k₁ f₁ e₁ k₂ f₂ e₂ = (rw e₁ at (one_writing s₁ b₁ c₁ f₁ k₁), rw e₂ at (one_writing s₂ b₂ c₂ f₂ k₂))

-- document 01's worked writing at both thresholds is an instance
worked_alike : Holds house used (worked 4) worked_items × Holds house used (worked 5) worked_items
unfolding shown
worked_alike =
    only_layout_differs worked_items house used (worked 4) house used (worked 5)
    house_blank at_4_finishes (ap (λ (s : Shown). s.items) at_4)
    house_blank at_5_finishes (ap (λ (s : Shown). s.items) at_5)
