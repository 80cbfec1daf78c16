-- A reprint by its tree: the two calls answer exactly if the text is parsed and the tree's calls fit; and the reprint of a reprint, at any threshold, is the
-- text's own.
-- Assumes nothing.
use Prim.Native.Nat.{ℕ, ◌/◌, ◌≤◌}
use native.Mathlib.Omega.{arith}
use mathlib.Core.Path.{◌≡◌, refl, sym, ap, ◌∙◌}
use mathlib.Core.List.{List}
use lib.ListN.{length, take}
use Rattle.sise_parser.specs.Refusals.{Refusal}
use Rattle.sise_tree.specs.Tree.{size}
use Rattle.sise_tree.specs.Answers.{Answer, answered, refused}
use Rattle.sise_tree.specs.ParseText.{ParsesText, parse_text}
use Rattle.sise_tree_writer.specs.SerializeTree.{Writes}
use Rattle.sise_tree_writer.specs.House.{house_at}
use Rattle.sise_tree_writer.specs.Alike.{Tree, tree_of, ReadsAs}
use Rattle.sise_reprint.specs.Reprint.{reprinted, refused_by, after_house, after_parse, reprint}
use Rattle.sise_reprint.proofs.Trees.{nodes_in, nodes_of, reads_once}
use Rattle.sise_reprint.proofs.Parsed.{Parsed, parses_to, was_parsed, parsed_words, parsed_reads}
use Rattle.sise_reprint.proofs.House.{printing, house_prints, Prints, answered_fits, fits_answer, fits_made, prints_low, prints_again, prints_reads}

-- ---- a text that was reprinted, by its tree

pub record Reprinted (t : ℕ) (text words buffer : List ℕ) (k : ℕ) (out : List ℕ) : Type 0 where
  pub parsed : Parsed text words k
  pub prints : Prints t (tree_of text parsed.node) buffer out

-- its tree
abbrev pub tree : {t : ℕ} {text words buffer : List ℕ} {k : ℕ} {out : List ℕ} → Reprinted t text words buffer k out → Tree
tree {text = text} r = tree_of text r.parsed.node

module _ (t : ℕ) (text words buffer : List ℕ) where
  -- the house call, once parse_text has answered
  pub after_parse_lem : {k : ℕ} (p : Parsed text words k) → house_at t buffer text (parse_text text words).words ≡ printing t (tree_of text p.node) buffer
  after_parse_lem p = ap (house_at t buffer text) (parsed_words p) ∙ house_prints t buffer p

  reprint_by : {k : ℕ} (p : Parsed text words k) → (parse_text text words).answer ≡ answered k
      → let d = printing t (tree_of text p.node) buffer in reprint t text words buffer ≡ after_house k d d.answer
  unfolding reprint
  reprint_by {k} p e =
      ap (after_parse t text buffer (parse_text text words).words) e
      ∙ ap (λ (d : Writes). after_house k d d.answer) (after_parse_lem p)

  reprint_refused : {e : Refusal} → (parse_text text words).answer ≡ refused e → reprint t text words buffer ≡ refused_by e
  unfolding reprint
  reprint_refused e = ap (after_parse t text buffer (parse_text text words).words) e

  no_reprint : {A : Type 0} {k : ℕ} {out : List ℕ} {e : Refusal} → refused_by e ≡ reprinted k out → A
  no_reprint {k = k} {out} {e} h = let z : ◌≡◌ {A = ℕ} 0 1 = cc in absurd (omega arith)

  pub was_reprinted : {k : ℕ} {out : List ℕ} → reprint t text words buffer ≡ reprinted k out → Reprinted t text words buffer k out
  was_reprinted {k} {out} h = parsed (parse_text text words).answer refl
    where
      written : {m : ℕ} (p : Parsed text words m) → (parse_text text words).answer ≡ answered m → (a : Answer) → (printing t (tree_of text p.node) buffer).answer ≡ a
          → Reprinted t text words buffer k out
      written {m} p e (answered o) a =
          let d = printing t (tree_of text p.node) buffer in
          let z : reprinted m (take d.serializer.position d.buffer) ≡ reprinted k out = sym (ap (after_house m d) a) ∙ sym (reprint_by p e) ∙ h in
          let n : m ≡ k = cc in
          let s : take d.serializer.position d.buffer ≡ out = cc in
          let f = answered_fits t (tree_of text p.node) buffer a in
          let r : Reprinted t text words buffer m out = record {
            parsed = p;
            prints = record { fit = f; text = sym s ∙ ap (λ (x : Writes). take x.serializer.position x.buffer) (fits_made t (tree_of text p.node) buffer f) };
          } in
          rw n at r
      written {m} p e (refused f) a =
          let d = printing t (tree_of text p.node) buffer in
          no_reprint (sym (ap (after_house m d) a) ∙ sym (reprint_by p e) ∙ h)

      parsed : (a : Answer) → (parse_text text words).answer ≡ a → Reprinted t text words buffer k out
      parsed (answered m) e = let p = was_parsed text words e in written p e (printing t (tree_of text p.node) buffer).answer refl
      parsed (refused f) e = no_reprint (sym (reprint_refused e) ∙ h)

  pub is_reprinted : {k : ℕ} {out : List ℕ} → Reprinted t text words buffer k out → reprint t text words buffer ≡ reprinted k out
  is_reprinted {k} {out} r =
      let p = r.parsed in
      let x = tree_of text p.node in
      let d = printing t x buffer in
      let f = r.prints.fit in
      let (o, a) = fits_answer t x buffer f in
      let e : (parse_text text words).answer ≡ answered k =
      ap (λ (y : ParsesText). y.answer) (parses_to text words p.short p.reads p.ends p.table) ∙ ap answered (sym p.nodes) in
      reprint_by p e
      ∙ ap (after_house k d) a
      ∙ ap (λ (y : Writes). reprinted k (take y.serializer.position y.buffer)) (fits_made t x buffer f)
      ∙ ap (reprinted k) (sym r.prints.text)

-- a reprint's reprint at any threshold is the text's own
module _ {t t' : ℕ} {text words buffer : List ℕ} {k : ℕ} {out : List ℕ} (r : Reprinted t text words buffer k out)
    {words₁ buffer₁ : List ℕ} {k₁ : ℕ} {out₁ : List ℕ} (s : Reprinted t' text words₁ buffer₁ k₁ out₁)
    (words' buffer' : List ℕ) (nodes : k ≤ length words' / 4) (room : length out₁ ≤ length buffer') where
  pub again : ReadsAs out (tree r)
  again = prints_reads t r.parsed buffer r.prints

  same_tree : tree s ≡ tree_of out again.node
  same_tree = reads_once (parsed_reads s.parsed) (parsed_reads r.parsed) ∙ sym again.same

  same_nodes : k ≡ size again.node
  same_nodes = r.parsed.nodes ∙ nodes_of text r.parsed.node ∙ ap nodes_in (sym again.same) ∙ sym (nodes_of out again.node)

  pub reprinted_again : Reprinted t' out words' buffer' k out₁
  reprinted_again = record {
    parsed = record {
      node = again.node;
      reader = again.reader;
      reads = again.reads;
      ends = again.ended;
      short = prints_low t (tree r) buffer r.prints;
      nodes = same_nodes;
      table = omega (arith, same_nodes);
    };
    prints = rw same_tree at (prints_again t' (tree s) buffer₁ s.prints buffer' room);
  }
