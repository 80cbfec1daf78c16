-- Calls of next_item that a program made one by one, each meeting its contract, are the definition's reading: its answers and its record.
-- Assumes nothing.
use Prim.Native.Nat.{ℕ, zero, suc, ◌+◌}
use native.Mathlib.Nat.{add-zero, zero-add}
use native.Mathlib.Omega.{arith}
use mathlib.Core.Path.{◌≡◌, refl, sym, ap, ap₂, ◌∙◌}
use mathlib.Core.List.{List, ◌∷◌}
use lib.ListN.{length}
use Rattle.sise_parser.specs.Reader.{Answer, Next, fresh_reader, next_item, after_calls, answers_from}
use Rattle.sise_parser.specs.Readings.{Read, none, more}
use Rattle.sise_parser.specs.declared.reader.Reader.{Reader}

-- from any record on
pub read_answers : {text : List ℕ} {r v : Reader} {l : List Answer} → Read text r l v → l ≡ answers_from text r (length l)
unfolding answers_from
read_answers none = refl
read_answers {text = text} (more {l = l} n e m) =
    ap₂ (λ (a : Answer) (k : List Answer). a ∷ k) (ap (λ (x : Next). x.answer) e) (read_answers m ∙ ap (λ (x : Next). answers_from text x.reader (length l)) e)

-- from the record after j calls of a fresh reader
read_on_lem : {text : List ℕ} {r v : Reader} {l : List Answer} (j : ℕ) → r ≡ after_calls text j → Read text r l v → v ≡ after_calls text (j + length l)
unfolding after_calls
read_on_lem {text = text} j h none = h ∙ ap (after_calls text) (sym (add-zero j))
read_on_lem {text = text} j h (more {l = l} n e m) =
    let z : suc j + length l ≡ j + suc (length l) = omega arith in
    read_on_lem (suc j) (ap (λ (x : Next). x.reader) e ∙ ap (λ (x : Reader). (next_item text x).reader) h) m ∙ ap (after_calls text) z

pub read_record : {text : List ℕ} {v : Reader} {l : List Answer} → Read text fresh_reader l v → v ≡ after_calls text (length l)
unfolding after_calls
read_record {text = text} {l = l} m = read_on_lem zero refl m ∙ ap (after_calls text) (zero-add (length l))
