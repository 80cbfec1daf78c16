-- The worked text, and one with comments, CRLF and odd spacing, are instances of the laws: both reprint to one text, which stays; a text with another atom
-- reprints otherwise.
-- Assumes nothing.
use Prim.Native.Nat.{ℕ, ◌/◌, ◌≤◌}
use native.Mathlib.Omega.{arith}
use mathlib.Core.Path.{◌≡◌, refl, ap}
use mathlib.Core.List.{List, [], ◌∷◌}
use lib.ListN.{length, get_or}
use Rattle.sise_parser.specs.Examples.{worked_text}
use Rattle.std.specs.Prelude.{Result, Ok}
use Rattle.sise_tree.specs.declared.parse.TreeError.{TreeError}
use Rattle.sise_tree_writer.specs.Answers.{TreeWrote}
use Rattle.sise_reprint.specs.Equal.{Equal, atoms, lists, more}
use Rattle.sise_reprint.specs.Reprint.{reprinted, reprint, Calls, text_by}
use Rattle.sise_reprint.specs.Examples.{used, odd_text, other_text, broken, line, reprints, worked_tree, other_tree, worked_reads, odd_reads, other_reads, calls_made}
use Rattle.sise_reprint.proofs.Trees.{same_equal}
use Rattle.sise_reprint.proofs.Final.{reprint_final, reprint_through, reprint_alike}
use Rattle.sise_reprint.proofs.FinalCalls.{returned_final}

module _ (words' buffer' : List ℕ) (nodes : 6 ≤ length words' / 4) where
  -- on one line
  pub worked_final : length (line worked_text) ≤ length buffer' → reprint 72 (line worked_text) words' buffer' ≡ reprinted 6 (line worked_text)
  worked_final room = reprint_final 72 worked_text (used 24) (used 17) reprints.worked words' buffer' nodes room

  -- with every line broken
  pub odd_final : length broken ≤ length buffer' → reprint 0 broken words' buffer' ≡ reprinted 6 broken
  odd_final room = reprint_final 0 odd_text (used 27) (used 30) reprints.odd_at0 words' buffer' nodes room

  -- on one line, and broken from there
  pub odd_through : length broken ≤ length buffer' → reprint 0 (line worked_text) words' buffer' ≡ reprinted 6 broken
  odd_through room = reprint_through 72 0 odd_text (used 27) (used 20) (used 27) (used 30) reprints.odd reprints.odd_at0 words' buffer' nodes room

-- the trees of the two texts with another atom: the fourth byte of a string is another
differ : Equal worked_tree other_tree → ⊥
unfolding worked_tree other_tree
differ (lists (more _ (more (lists (more _ (more (atoms e) _))) _))) = let byte : ◌≡◌ {A = ℕ} 98 99 = ap (λ (l : List ℕ). get_or l 3 0) e in omega arith

-- at every threshold, with any tables and buffers
module _ (t : ℕ) (words₁ buffer₁ words₂ buffer₂ : List ℕ) {k₁ k₂ : ℕ} {out₁ out₂ : List ℕ} (h : reprint t worked_text words₁ buffer₁ ≡ reprinted k₁ out₁) where
  -- two texts that differ only in layout and comments reprint alike
  pub layout_alike : reprint t odd_text words₂ buffer₂ ≡ reprinted k₂ out₂ → out₁ ≡ out₂
  layout_alike g = (reprint_alike t worked_text words₁ buffer₁ odd_text words₂ buffer₂ worked_reads h odd_reads g).1 (same_equal refl)

  -- two that differ in one atom do not
  pub atom_differs : reprint t other_text words₂ buffer₂ ≡ reprinted k₂ out₂ → out₁ ≡ out₂ → ⊥
  atom_differs g e = differ ((reprint_alike t worked_text words₁ buffer₁ other_text words₂ buffer₂ worked_reads h other_reads g).0 e)

-- calls made on `a`: made once more on what they wrote, whatever they are lent, they return the same
pub made_final : {words' buffer' : List ℕ} {parsed' : Result ℕ TreeError} {table' : List ℕ} {wrote' : TreeWrote} {now' : List ℕ}
    → Calls 72 (97 ∷ 10 ∷ []) words' buffer' parsed' table' wrote' now' → 1 ≤ length words' / 4 → 2 ≤ length buffer'
    → (parsed' ≡ Ok 1) × (text_by wrote' now' ≡ 97 ∷ 10 ∷ [])
made_final c nodes room = let (p, w, t) = returned_final calls_made refl c nodes room in (p, t)
