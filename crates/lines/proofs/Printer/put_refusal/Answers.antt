-- The word, and the parts behind it, which are three at most.
use Rattle.std.proofs.Common.{◌≡◌, sym, [], ◌∷◌, ℕ, take, min}
use Rattle.std.proofs.lemmas.List.{take_min}
use Rattle.sise_parser.specs.Refusals.{Refusal}
use Rattle.lines.specs.Put.{Output, put, numbers_text, refusal_text}
use Rattle.lines.proofs.Laws.{put_both}
use Rattle.lines.proofs.Printer.put_refusal.Goals as goal

parts_of : {q : Output} (o : Output) {r x : Refusal} {n : ℕ} (m : ℕ) → n ≡ min m 3 → x ≡ r → q ≡ put o (numbers_text (take n (x.number ∷ x.place ∷ x.code ∷ [])))
    → q ≡ put o (numbers_text (take m (r.number ∷ r.place ∷ r.code ∷ [])))
parts_of o {r} m e f k = rw (sym (take_min m (r.number ∷ r.place ∷ r.code ∷ [])), sym e, sym f) k

pub returns : goal.returns
unfolding refusal_text
returns g c = put_both _ _ _ c.put_bytes.ensures (parts_of _ _ c.min.ensures c.numbers-number.ensures c.put_numbers.ensures)
