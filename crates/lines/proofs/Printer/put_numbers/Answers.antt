-- To put the numbers that are left is to put all of them from the beginning.
use Rattle.std.proofs.Common.{◌≡◌, ◌∙◌, refl, length, ℕ, suc, ◌+◌, ◌<◌, ◌≤◌, List, get_or, drop, add-one, drop-cons, drop_of_length-le}
use Rattle.lines.specs.Put.{Output, put, number, numbers_text}
use Rattle.lines.proofs.Laws.{put_both}
use Rattle.lines.proofs.Printer.put_numbers.Goals as goal

step : (o : Output) {q : Output} (s : List ℕ) (i : ℕ) → i < length s → q ≡ put o (number (get_or s i 0))
    → put q (numbers_text (drop (i + 1) s)) ≡ put o (numbers_text (drop i s))
unfolding numbers_text
step o s i h e = rw (add-one, drop-cons s i 0) (put_both o (number (get_or s i 0)) (numbers_text (drop (suc i) s)) e refl)

end : (o : Output) (s : List ℕ) (i : ℕ) → length s ≤ i → o ≡ put o (numbers_text (drop i s))
unfolding put numbers_text
end o s i h = rw drop_of_length-le

pub loop-number-preserved : goal.loop-number-preserved
loop-number-preserved c = step _ _ _ c.loop-number-test.true c.put_number.ensures ∙ c.loop-number.invariant

pub returns : goal.returns
returns c = end _ _ _ c.loop-number-test.false ∙ c.loop-number.invariant
