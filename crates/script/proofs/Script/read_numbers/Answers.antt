-- The count, each number after the last, and the line end after them.
use Rattle.std.proofs.Common.{rules, ◌≡◌, refl, subst, add-one, arith, length, List, ℕ, ◌+◌, ◌<◌, ◌≤◌, take, slice_set, []}
use Rattle.std.proofs.Math.Seq.{take-suc-set}
use Rattle.std.proofs.lemmas.List.{take_all}
use Rattle.script.specs.Numbers.{Each, Number, number_meant}
use Rattle.script.proofs.Laws.{each_more}
use Rattle.script.proofs.Script.read_numbers.Goals as goal

none : (s : List ℕ) → Each s [] s
unfolding Each
none s = refl

step : (s : List ℕ) {t u : List ℕ} (ms : List ℕ) (i : ℕ) {n m : ℕ} → i < length ms → Each s (take i ms) t → Number 32 t n u → m ≡ number_meant n
    → Each s (take (i + 1) (slice_set ms i m)) u
step s ms i {n} {m} h p q e = rw (add-one, take-suc-set ms i m h) (each_more (take i ms) s p q e)

-- all of them were read
whole : {t u : List ℕ} (old s ms list : List ℕ) {k : ℕ} (i : ℕ) → k ≤ length list → length ms ≡ k → k ≤ i → Number 32 old k s → Each s (take i ms) t → t ≡ u
    → (x : List ℕ) × Number 32 old (length ms) x × Each x ms u × (length ms ≤ length list)
whole {t} {u} old s ms list {k} i h l g p q e =
    (s, rw l p, subst (λ (x : List ℕ). Each s x u) (take_all i ms (omega (arith, l, g))) (subst (λ (x : List ℕ). Each s (take i ms) x) e q), rw l h)

pub loop-number-init : goal.loop-number-init
loop-number-init c = none _

pub loop-number-preserved : goal.loop-number-preserved
loop-number-preserved c = step _ _ _ (search rules) c.loop-number.invariant c.in_ok-read_number.ensures c.meant.ensures

pub returns : goal.returns
returns c =
    let part = rw c.in_ok-numbers.ensures.ok_part at c.get_mut.ensures.lookup in
    let len = part.0.3 in
    whole _ _ _ _ _ part.0.1 (omega (arith, len, c.loop-number.auto.numbers)) (omega (arith, len, c.loop-number-test.false)) c.in_ok-count.ensures
    c.loop-number.invariant c.in_ok-read_byte.ensures
