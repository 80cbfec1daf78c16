-- Reprinting is final, of what a program got that made the two calls: what they returned, wrote and left. Each law is that of Final.antt, carried to the calls.
use Prim.Native.Nat.{ℕ, ◌/◌, ◌≤◌}
use native.Mathlib.Omega.{arith}
use mathlib.Core.Path.{◌≡◌, refl, sym, ap, ap₂, ◌∙◌}
use mathlib.Core.List.{List}
use lib.ListN.{length, length-take}
use Rattle.sise_serializer.specs.declared.serializer.Serializer.{Serializer}
use Rattle.sise_tree.specs.Tree.{size}
use Rattle.std.specs.Prelude.{Result, Ok}
use Rattle.sise_tree.specs.declared.parse.TreeError.{TreeError}
use Rattle.sise_tree_writer.specs.Alike.{Tree, ReadsAs}
use Rattle.sise_tree_writer.specs.declared.serialize.WriteTreeError.{WriteTreeError}
use Rattle.sise_tree_writer.specs.Answers.{TreeWrote}
use Rattle.sise_tree_writer.proofs.Lossless.{put_lossless}
use Rattle.sise_reprint.specs.Equal.{Equal}
use Rattle.sise_reprint.specs.Reprint.{Fits, Calls, text_by}
use Rattle.sise_reprint.proofs.Trees.{reads_once}
use Rattle.sise_reprint.proofs.Parsed.{parsed_reads}
use Rattle.sise_reprint.proofs.House.{printing, prints_measured, prints_reads}
use Rattle.sise_reprint.proofs.Reprinted.{tree, was_reprinted, reprinted_again}
use Rattle.sise_reprint.proofs.Returned.{returned_reprint, returns_nodes, returns_record, returns_answer, returns_offset, returns_text}
use Rattle.sise_reprint.proofs.Final.{fits_reprinted, reprint_alike}

-- such a text: parse_text returns its number of nodes, and the house call an offset
pub returned_accepted : (t : ℕ) (text words buffer : List ℕ) {x : Tree} (r : ReadsAs text x) → Fits t text words buffer r
    → {parsed : Result ℕ TreeError} {table : List ℕ} {wrote : TreeWrote} {now : List ℕ} → Calls t text words buffer parsed table wrote now
    → (parsed ≡ Ok (size r.node)) × ((o : ℕ) × (wrote.answer ≡ Ok o))
returned_accepted t text words buffer r f c = let h = fits_reprinted t text words buffer r f in (returns_nodes c h, returns_offset c h)

-- the calls made once more on the text that was written, with any table that holds the nodes and any buffer that holds the bytes: the same number of nodes,
-- the same answer and record, and the same bytes
pub returned_final : {t : ℕ} {text words buffer : List ℕ} {k o : ℕ} {table : List ℕ} {wrote : TreeWrote} {now : List ℕ}
    → Calls t text words buffer (Ok k) table wrote now → wrote.answer ≡ Ok o
    → {words' buffer' : List ℕ} {parsed' : Result ℕ TreeError} {table' : List ℕ} {wrote' : TreeWrote} {now' : List ℕ}
    → Calls t (text_by wrote now) words' buffer' parsed' table' wrote' now' → k ≤ length words' / 4 → wrote.serializer.position ≤ length buffer'
    → (parsed' ≡ Ok k) × (wrote' ≡ wrote) × (text_by wrote' now' ≡ text_by wrote now)
returned_final {t} {text} {words} {buffer} {k} {o} {table} {wrote} {now} c w {words'} {buffer'} {parsed'} {table'} {wrote'} {now'} c' nodes room =
    let out = text_by wrote now in
    let r = was_reprinted t text words buffer (returned_reprint c refl w) in
    let held : length out ≤ length buffer' = omega (arith, length-take wrote.serializer.position now) in
    let r' = reprinted_again r r words' buffer' nodes held in
    let one : tree r' ≡ tree r = reads_once (parsed_reads r'.parsed) (prints_reads t r.parsed buffer r.prints) in
    let (record_same, answer-same) = prints_measured t (tree r) buffer r.prints buffer' held in
    let serializer : wrote'.serializer ≡ wrote.serializer =
    returns_record c' r' ∙ ap (λ (x : Tree). (printing t x buffer').serializer) one ∙ record_same ∙ sym (returns_record c r) in
    let answer : wrote'.answer ≡ wrote.answer =
    put_lossless wrote'.answer wrote.answer (returns_answer c' r' ∙ ap (λ (x : Tree). (printing t x buffer').answer) one ∙ answer-same ∙ sym (returns_answer c r)) in
    (returns_nodes c' r', ap₂ (λ (x : Serializer) (y : Result ℕ WriteTreeError). wrote_with x y) serializer answer, returns_text c' r')
  where
    wrote_with : Serializer → Result ℕ WriteTreeError → TreeWrote
    wrote_with x y = record { serializer = x; answer = y }

-- two programs, each with a text, a table and a buffer of its own: they wrote the same bytes exactly if their trees are equal
pub returned_alike : {t : ℕ}
    {text₁ words₁ buffer₁ table₁ now₁ text₂ words₂ buffer₂ table₂ now₂ : List ℕ} {k₁ o₁ k₂ o₂ : ℕ} {wrote₁ wrote₂ : TreeWrote} {x₁ x₂ : Tree}
    → ReadsAs text₁ x₁ → Calls t text₁ words₁ buffer₁ (Ok k₁) table₁ wrote₁ now₁ → wrote₁.answer ≡ Ok o₁
    → ReadsAs text₂ x₂ → Calls t text₂ words₂ buffer₂ (Ok k₂) table₂ wrote₂ now₂ → wrote₂.answer ≡ Ok o₂
    → (text_by wrote₁ now₁ ≡ text_by wrote₂ now₂ → Equal x₁ x₂) × (Equal x₁ x₂ → text_by wrote₁ now₁ ≡ text_by wrote₂ now₂)
returned_alike {t} {text₁} {words₁} {buffer₁} {text₂ = text₂} {words₂ = words₂} {buffer₂ = buffer₂} a₁ c₁ w₁ a₂ c₂ w₂ =
    reprint_alike t text₁ words₁ buffer₁ text₂ words₂ buffer₂ a₁ (returned_reprint c₁ refl w₁) a₂ (returned_reprint c₂ refl w₂)
