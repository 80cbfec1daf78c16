-- A digit more; or the number's end, where the script goes on behind it.
use Rattle.std.proofs.Common.{rules, ◌≡◌, refl, sym, ap, ◌∙◌, ◌++◌, length, ℕ, ◌+◌, ◌-◌, ◌*◌, ◌<◌, ◌≤◌, List, Option, Some, get_or, take, drop, add-one, drop-cons, arith}
use Rattle.std.proofs.Math.Seq.{take-length}
use Rattle.std.proofs.lemmas.List.{take-append-drop, length-drop, length-take-le}
use Rattle.std.proofs.lemmas.Int.Digits.{digits_more, digits_value_more}
use Rattle.std.specs.Char.{digit_value}
use Rattle.std.specs.Option.{SomeIff}
use Rattle.std.specs.Str.Parse.{AllDigits, digits_value}
use Rattle.script.specs.Numbers.{Number}
use Rattle.script.proofs.Script.read_number.Goals as goal

digit_of : {o : Option ℕ} (c : ℕ) {d : ℕ} → SomeIff o (digit_value c < 10) (digit_value c) → o ≡ Some d → (digit_value c < 10) × (d ≡ digit_value c)
digit_of c h e = rw e at h

more : (bs : List ℕ) (i : ℕ) {v d : ℕ} → i < length bs → AllDigits 10 (take i bs) → v ≡ digits_value 10 (take i bs) → v ≤ 99999999
    → (digit_value (get_or bs i 0) < 10) × (d ≡ digit_value (get_or bs i 0))
    → AllDigits 10 (take (i + 1) bs) × (v * 10 + d ≡ digits_value 10 (take (i + 1) bs)) × (v * 10 + d < 1000000000)
more bs i l a e h d = (digits_more 10 bs i l a d.0, rw (e, d.1) (sym (digits_value_more 10 bs i l)), (let k = d.0 in let m = d.1 in omega arith))

-- all that is left behind the end
rest_of : (bs : List ℕ) (k : ℕ) → take (length bs - k) (drop k bs) ≡ drop k bs
rest_of bs k = rw (sym (length-drop k bs), take-length) refl

found : (end v i : ℕ) {s t : List ℕ} (bs : List ℕ) → s ≡ bs → bs ≡ t → i < length bs → get_or bs i 0 ≡ end → 0 < i → AllDigits 10 (take i bs)
    → v ≡ digits_value 10 (take i bs) → v < 1000000000 → Number end s v (take (length t - (i + 1)) (drop (i + 1) t))
found end v i {s} {t} bs e f l g p a n b = record {
  digits = take i bs;
  joined = e ∙ sym (take-append-drop i bs) ∙ ap (λ (x : List ℕ). take i bs ++ x) (rw (drop-cons bs i 0 l, g, sym (add-one i), sym f, rest_of) refl);
  numeral = (rw (length-take-le i bs (omega arith)) p, a);
  value = n;
  below = b;
}

pub loop-at-preserved : goal.loop-at-preserved
loop-at-preserved c =
    let m =
    more _ _ (search rules) c.loop-at.invariant.1 c.loop-at.invariant.2 c.if-value.false
    (digit_of (get_or c.self.inside.rest.now c.loop-at.at 0) c.to_digit.ensures.value c.in_ok-digit.ensures.ok_part) in
    (c.loop-at.invariant.0, m.0, m.1, m.2)

pub returns-then-at-gt0 : goal.returns-then-at-gt0
returns-then-at-gt0 c =
    found _ _ _ _ (sym c.self.view_is) c.loop-at.invariant.0 c.loop-at-test.true c.if-byte-end.true c.if-at-gt0.true
    c.loop-at.invariant.1 c.loop-at.invariant.2 c.loop-at.invariant.3
