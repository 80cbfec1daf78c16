-- To put the bytes that are left is to put all of them from the beginning.
use Rattle.std.proofs.Common.{◌≡◌, ◌∙◌, [], ◌∷◌, length, ℕ, ◌+◌, ◌<◌, ◌≤◌, List, get_or, drop, add-one, drop-cons, drop_of_length-le}
use Rattle.lines.specs.Put.{Output, put}
use Rattle.lines.proofs.Printer.put_bytes.Goals as goal

step : (o q : Output) (s : List ℕ) (i : ℕ) → i < length s → q ≡ put o (get_or s i 0 ∷ []) → put q (drop (i + 1) s) ≡ put o (drop i s)
unfolding put
step o q s i h e = rw (e, add-one, drop-cons s i 0)

end : (o : Output) (s : List ℕ) (i : ℕ) → length s ≤ i → o ≡ put o (drop i s)
unfolding put
end o s i h = rw drop_of_length-le

pub loop-byte-preserved : goal.loop-byte-preserved
loop-byte-preserved c = step _ _ _ _ c.loop-byte-test.true c.put_byte.ensures ∙ c.loop-byte.invariant

pub returns : goal.returns
returns c = end _ _ _ c.loop-byte-test.false ∙ c.loop-byte.invariant
