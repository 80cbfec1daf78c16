-- What the two calls returned is what the definition of a reprint says, both ways: by the contracts an answer means what the definition answers, and loses
-- nothing.
-- Assumes nothing.
use Prim.Native.Nat.{ℕ}
use mathlib.Core.Path.{◌≡◌, sym, ap, ap₂, ◌∙◌}
use mathlib.Core.List.{List}
use lib.ListN.{take}
use Rattle.sise_serializer.specs.declared.serializer.Serializer.{Serializer}
use Rattle.sise_tree.specs.Answers.{answered, parsed_as}
use Rattle.sise_tree.specs.ParseText.{ParsesText, parse_text}
use Rattle.std.specs.Prelude.{Result, Ok}
use Rattle.sise_tree.specs.declared.parse.TreeError.{TreeError}
use Rattle.sise_tree.proofs.Lossless.{parsed_lossless}
use Rattle.sise_tree_writer.specs.Answers.{put_as}
use Rattle.sise_tree_writer.specs.SerializeTree.{Writes}
use Rattle.sise_tree_writer.specs.House.{house_at}
use Rattle.sise_tree_writer.specs.Answers.{TreeWrote}
use Rattle.sise_tree_writer.proofs.Lossless.{put_lossless}
use Rattle.sise_reprint.specs.Reprint.{reprinted, after_house, after_parse, reprint, Calls, text_by}
use Rattle.sise_reprint.proofs.Parsed.{parses_to}
use Rattle.sise_reprint.proofs.House.{printing, fits_answer, fits_made}
use Rattle.sise_reprint.proofs.Reprinted.{Reprinted, tree, after_parse_lem}

module _ {t : ℕ} {text words buffer : List ℕ} {parsed : Result ℕ TreeError} {table : List ℕ} {wrote : TreeWrote} {now : List ℕ} (c : Calls t text words buffer parsed table wrote now) where
  -- the house call, with the words that parse_text left
  written : house_at t buffer text table ≡ house_at t buffer text (parse_text text words).words
  written = ap (house_at t buffer text) c.parse.words

  returned_text : text_by wrote now ≡ take (house_at t buffer text (parse_text text words).words).serializer.position (house_at t buffer text (parse_text text words).words).buffer
  returned_text =
      ap₂ (λ (w : Serializer) (b : List ℕ). take w.position b) c.write.serializer c.write.buffer
      ∙ ap (λ (d : Writes). take d.serializer.position d.buffer) written

  -- both answered
  pub returned_reprint : {k o : ℕ} → parsed ≡ Ok k → wrote.answer ≡ Ok o → reprint t text words buffer ≡ reprinted k (text_by wrote now)
  unfolding reprint
  returned_reprint {k} {o} p w =
      let d = house_at t buffer text (parse_text text words).words in
      let e : (parse_text text words).answer ≡ answered k = sym c.parse.answer ∙ ap parsed_as p in
      let a : d.answer ≡ answered o = sym (ap (λ (x : Writes). x.answer) written) ∙ sym c.write.answer ∙ ap put_as w in
      ap (after_parse t text buffer (parse_text text words).words) e ∙ ap (after_house k d) a ∙ ap (reprinted k) (sym returned_text)

  -- a text that is reprinted: what the calls return
  module _ {k : ℕ} {out : List ℕ} (r : Reprinted t text words buffer k out) where
    pub returns_nodes : parsed ≡ Ok k
    returns_nodes =
        let p = r.parsed in
        parsed_lossless parsed (Ok k)
        (c.parse.answer ∙ ap (λ (y : ParsesText). y.answer) (parses_to text words p.short p.reads p.ends p.table) ∙ ap answered (sym p.nodes))

    made : house_at t buffer text table ≡ printing t (tree r) buffer
    made = written ∙ after_parse_lem t text words buffer r.parsed

    pub returns_record : wrote.serializer ≡ (printing t (tree r) buffer).serializer
    returns_record = c.write.serializer ∙ ap (λ (d : Writes). d.serializer) made

    pub returns_answer : put_as wrote.answer ≡ (printing t (tree r) buffer).answer
    returns_answer = c.write.answer ∙ ap (λ (d : Writes). d.answer) made

    pub returns_offset : (o : ℕ) × (wrote.answer ≡ Ok o)
    returns_offset =
        let (o, a) = fits_answer t (tree r) buffer r.prints.fit in
        (o, put_lossless wrote.answer (Ok o) (returns_answer ∙ a))

    pub returns_text : text_by wrote now ≡ out
    returns_text =
        returned_text
        ∙ ap (λ (d : Writes). take d.serializer.position d.buffer) (after_parse_lem t text words buffer r.parsed ∙ fits_made t (tree r) buffer r.prints.fit)
        ∙ sym r.prints.text
