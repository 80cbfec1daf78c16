-- The items counted, and those of as many calls as are left, are all.
use mathlib.Core.Path.{◌≡◌, sym, ap, ◌∙◌}
use mathlib.Core.List.{List}
use Prim.Native.Nat.{ℕ, suc, ◌+◌, ◌-◌, ◌<◌}
use native.Mathlib.Nat.{zero-add}
use native.Mathlib.Omega.{arith}
use lib.ListN.{length}
use Rattle.sise_parser.specs.Refusals.{Refusal, refusal_of}
use Rattle.sise_parser.specs.Reader as reader
use Rattle.sise_parser.specs.Reader.{fresh_reader, next_item}
use Rattle.sise_parser.specs.Meaning.{answer_as, next_as}
use Rattle.sise_parser.specs.declared.error.ParseError.{ParseError}
use Rattle.std.specs.Prelude.{Result, Ok, Err}
use Rattle.sise_parser.specs.declared.reader.ParsedItem.{ParsedItem}
use Rattle.sise_parser.specs.declared.reader.Next.{Next}
use Rattle.sise_parser.specs.declared.reader.Reader.{Reader}
use Rattle.sise_singly.specs.Count.{count_from, count_items}
use Rattle.sise_singly.proofs.sise_count_items.Goals as goal

start : (text : List ℕ) (r : Reader) → r ≡ fresh_reader → 0 + count_from (length text + 1 - 0) text r ≡ count_items text
unfolding count_items
start text r e =
    let z : length text + 1 - 0 ≡ suc (length text) = omega arith in
    zero-add _ ∙ ap (λ (k : ℕ). count_from k text r) z ∙ ap (count_from (suc (length text)) text) e

refused : (text : List ℕ) (r : Reader) (k : ℕ) (e : Refusal) → (next_item text r).answer ≡ reader.refused e → count_from (suc k) text r ≡ 0
unfolding count_from
refused text r k e d = rw (d, count_from)

given : (text : List ℕ) (r : Reader) (k : ℕ) (i : ParsedItem) → (next_item text r).answer ≡ reader.item i → count_from (suc k) text r ≡ 1 + count_from k text (next_item text r).reader
unfolding count_from
given text r k i d = rw (d, count_from)

-- one call, and what it has to answer
module _ (text : List ℕ) (r : Reader) {count : ℕ} (c : count + count_from (length text + 1 - count) text r ≡ count_items text) (more : count < length text + 1) (n : Next) (e : next_as n ≡ next_item text r) where
  answered : {a : Result ParsedItem ParseError} → n.answer ≡ a → (next_item text r).answer ≡ answer_as a
  answered d = ap (λ (x : reader.Next). x.answer) (sym e) ∙ ap answer_as d

  total : count + count_from (suc (length text - count)) text r ≡ count_items text
  total = let left : suc (length text - count) ≡ length text + 1 - count = omega arith in ap (λ (k : ℕ). count + count_from k text r) left ∙ c

  stopped : {f : ParseError} → n.answer ≡ Err f → count ≡ count_items text
  stopped {f} d = sum (refused text r (length text - count) (refusal_of f) (answered d)) total
    where
      sum : {x y : ℕ} → x ≡ 0 → count + x ≡ y → count ≡ y
      sum z t = omega arith

  on : {i : ParsedItem} → n.answer ≡ Ok i → count + 1 + count_from (length text + 1 - (count + 1)) text n.reader ≡ count_items text
  on {i} d =
      ap (λ (k : ℕ). count + 1 + count_from k text n.reader) left
      ∙ sum _ (given text r (length text - count) i (answered d) ∙ ap (λ (x : reader.Next). 1 + count_from (length text - count) text x.reader) (sym e)) total
    where
      left : length text + 1 - (count + 1) ≡ length text - count
      left = omega arith

      sum : {x y : ℕ} (z : ℕ) → x ≡ 1 + z → count + x ≡ y → count + 1 + z ≡ y
      sum z e t = omega arith

-- no call is left
ended : (text : List ℕ) (r : Reader) {count : ℕ} → count + count_from (length text + 1 - count) text r ≡ count_items text → count ≡ length text + 1 → length text + 1 ≡ count_items text
unfolding count_from
ended text r {count} c h =
    let none : length text + 1 - count ≡ 0 = omega arith in
    sum (ap (λ (k : ℕ). count_from k text r) none) c
  where
    sum : {x y : ℕ} → x ≡ 0 → count + x ≡ y → length text + 1 ≡ y
    sum z t = omega arith

pub loop-count-init : goal.loop-count-init
loop-count-init c = start _ _ c.new-reader.ensures

pub returns-in_default : goal.returns-in_default
returns-in_default c = stopped _ _ c.loop-count.invariant (omega arith) _ c.next_item-next.ensures c.in_default.is

pub loop-count-preserved : goal.loop-count-preserved
loop-count-preserved c = on _ _ c.loop-count.invariant (omega arith) _ c.next_item-next.ensures c.in-Ok.is

pub returns : goal.returns
returns c = ended _ _ c.loop-count.invariant (omega arith)
