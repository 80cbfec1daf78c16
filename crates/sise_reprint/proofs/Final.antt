-- Request 2.4: reprinting is final, and two texts reprint alike exactly when their trees are equal. What is written depends on the threshold and the tree of
-- bytes alone, and is read as that tree; so the second reprint writes what the first wrote. By the definitions of the two calls.
use Prim.Native.Nat.{ℕ, ◌/◌, ◌≤◌}
use mathlib.Core.Path.{◌≡◌, refl, sym, ◌∙◌, subst}
use mathlib.Core.List.{List}
use lib.ListN.{length}
use Rattle.sise_serializer.specs.Calls.{writing}
use Rattle.sise_layout.specs.Texts as layout
use Rattle.sise_tree.specs.Tree.{size}
use Rattle.sise_tree_writer.specs.House.{house_style}
use Rattle.sise_tree_writer.specs.Alike.{Tree, tree_of, ReadsAs}
use Rattle.sise_reprint.specs.Equal.{Equal}
use Rattle.sise_reprint.specs.Reprint.{reprinted, reprint, Fits}
use Rattle.sise_reprint.proofs.Trees.{whole_calls, whole_calls_lem, equal_same, same_equal, reads_once}
use Rattle.sise_reprint.proofs.Parsed.{parsed_reads}
use Rattle.sise_reprint.proofs.House.{Prints, prints_once, prints_reads}
use Rattle.sise_reprint.proofs.Reprinted.{Reprinted, tree, was_reprinted, is_reprinted, reprinted_again}

-- ---- the texts that are reprinted

module _ (t : ℕ) (text words buffer : List ℕ) {x : Tree} (r : ReadsAs text x) (f : Fits t text words buffer r) where
  abbrev out : List ℕ
  out = layout.text_of (writing house_style buffer (whole_calls t (tree_of text r.node)))

  pub fits_reprinted : Reprinted t text words buffer (size r.node) out
  fits_reprinted = record {
    parsed = record { node = r.node; reader = r.reader; reads = r.reads; ends = r.ended; short = f.short; nodes = refl; table = f.table };
    prints = record { fit = rw (← whole_calls_lem text t r.node) f.room; text = refl };
  }

  -- "every text that is read to its end as one node ... and whose tree and reprint fit" is
  pub reprint_accepted : reprint t text words buffer ≡ reprinted (size r.node) out
  reprint_accepted = is_reprinted t text words buffer fits_reprinted

-- and no other
pub reprint_only : (t : ℕ) (text words buffer : List ℕ) {k : ℕ} {out : List ℕ} → reprint t text words buffer ≡ reprinted k out
    → (x : Tree) × (r : ReadsAs text x) × Fits t text words buffer r × (k ≡ size r.node)
reprint_only t text words buffer h =
    let r = was_reprinted t text words buffer h in
    let p = r.parsed in
    (tree_of text p.node, parsed_reads p, record { short = p.short; table = p.table; room = rw (whole_calls_lem text t p.node) r.prints.fit }, p.nodes)

-- ---- the two laws

-- "reprinting the reprint gives the same bytes": it is accepted with each table that holds the nodes and each buffer that holds the bytes, whatever is in them
pub reprint_final : (t : ℕ) (text words buffer : List ℕ) {k : ℕ} {out : List ℕ} → reprint t text words buffer ≡ reprinted k out
    → (words' buffer' : List ℕ) → k ≤ length words' / 4 → length out ≤ length buffer'
    → reprint t out words' buffer' ≡ reprinted k out
reprint_final t text words buffer {out = out} h words' buffer' nodes room =
    let r = was_reprinted t text words buffer h in
    is_reprinted t out words' buffer' (reprinted_again r r words' buffer' nodes room)

-- a reprint at one threshold, reprinted at another, is what the text itself is there
pub reprint_through : (t t' : ℕ) (text words buffer words₁ buffer₁ : List ℕ) {k k₁ : ℕ} {out out₁ : List ℕ}
    → reprint t text words buffer ≡ reprinted k out → reprint t' text words₁ buffer₁ ≡ reprinted k₁ out₁
    → (words' buffer' : List ℕ) → k ≤ length words' / 4 → length out₁ ≤ length buffer'
    → reprint t' out words' buffer' ≡ reprinted k out₁
reprint_through t t' text words buffer words₁ buffer₁ {out = out} h g words' buffer' nodes room =
    is_reprinted t' out words' buffer'
    (reprinted_again (was_reprinted t text words buffer h) (was_reprinted t' text words₁ buffer₁ g) words' buffer' nodes room)

-- "Two such texts reprint alike at one threshold exactly when their trees are equal, atoms by their bytes"
pub reprint_alike : (t : ℕ) (text₁ words₁ buffer₁ text₂ words₂ buffer₂ : List ℕ) {k₁ k₂ : ℕ} {out₁ out₂ : List ℕ} {x₁ x₂ : Tree}
    → ReadsAs text₁ x₁ → reprint t text₁ words₁ buffer₁ ≡ reprinted k₁ out₁
    → ReadsAs text₂ x₂ → reprint t text₂ words₂ buffer₂ ≡ reprinted k₂ out₂
    → (out₁ ≡ out₂ → Equal x₁ x₂) × (Equal x₁ x₂ → out₁ ≡ out₂)
reprint_alike t text₁ words₁ buffer₁ text₂ words₂ buffer₂ {out₂ = out₂} a₁ h₁ a₂ h₂ =
    let r₁ = was_reprinted t text₁ words₁ buffer₁ h₁ in
    let r₂ = was_reprinted t text₂ words₂ buffer₂ h₂ in
    let y₁ = prints_reads t r₁.parsed buffer₁ r₁.prints in
    let y₂ = prints_reads t r₂.parsed buffer₂ r₂.prints in
    let z₁ = reads_once a₁ (parsed_reads r₁.parsed) in
    let z₂ = reads_once a₂ (parsed_reads r₂.parsed) in (
      λ e. same_equal (z₁ ∙ reads_once (subst (λ (o : List ℕ). ReadsAs o (tree r₁)) e y₁) y₂ ∙ sym z₂),
      λ e. prints_once r₁.prints (subst (λ (x : Tree). Prints t x buffer₂ out₂) (sym z₂ ∙ sym (equal_same e) ∙ z₁) r₂.prints),
    )
