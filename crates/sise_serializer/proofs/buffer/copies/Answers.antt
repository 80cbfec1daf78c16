-- No copy is no byte, and a uniform src is filled in at once. Else, before each turn the buffer has as many copies of src pasted at `at` as there were turns.
use Prim.Native.Nat.{ℕ, ◌+◌, ◌*◌, ◌≤◌, ◌<◌}
use native.Mathlib.Nat.{mul-le-mul_right, suc-mul}
use native.Mathlib.Omega.{arith}
use mathlib.Core.Path.{◌≡◌, refl, sym, ap, ◌∙◌}
use mathlib.Core.List.{List, [], ◌∷◌}
use lib.ListN.{length}
use borrow.Author.Rules.{rules}
use Rattle.std.specs.Prelude.{replicate}
use Rattle.sise_serializer.specs.Bytes.{repeat}
use Rattle.sise_serializer.proofs.Bytes.{pasted_none, pasted_again, pasted_part, repeat_length, repeat_repeat, repeat_replicate}
use Rattle.sise_serializer.proofs.buffer.copies.Goals as goal

-- copies of a uniform src
uniform : (n b : ℕ) (s part : List ℕ) {k : ℕ} → s ≡ repeat (length s) (b ∷ []) → k ≡ n * length s → part ≡ replicate k b → part ≡ repeat n s
uniform n b s part h e p =
    p ∙ ap (λ (m : ℕ). replicate m b) e ∙ repeat_replicate (n * length s) b ∙ sym (repeat_repeat n (length s) (b ∷ [])) ∙ ap (repeat n) (sym h)

-- the next copy has room too
room : (k times at : ℕ) (s buf : List ℕ) → k < times → at + times * length s ≤ length buf → at + k * length s + length s ≤ length buf
room k times at s buf h r = omega (arith, mul-le-mul_right (length s) h, suc-mul k (length s))

pub returns-then-times-eq0 : goal.returns-then-times-eq0
returns-then-times-eq0 c = rw c.if-times-eq0.true (sym (pasted_none c.args.buf.now c.args.at))

pub returns-in-Some : goal.returns-in-Some
returns-in-Some c =
    let a = c.args in
    pasted_part _ _ _ _ _ (uniform a.times c.in-Some.byte a.src.now _ c.in-Some.ensures.1 (search rules) (c.fill.ensures.after (λ y h. search rules))) (omega (arith, repeat_length a.times a.src.now))

pub loop-k-init : goal.loop-k-init
loop-k-init c = (sym (pasted_none c.args.buf.now c.args.at), refl)

pub overflow_mul-k : goal.overflow_mul-k
overflow_mul-k c = omega (arith, room c.loop-k.k c.args.times c.args.at c.args.src.now c.args.buf.now (omega arith) c.requires)

pub overflow_add-at : goal.overflow_add-at
overflow_add-at c = omega (arith, room c.loop-k.k c.args.times c.args.at c.args.src.now c.args.buf.now (omega arith) c.requires)

pub copy-requires : goal.copy-requires
copy-requires c = omega (arith, c.loop-k.invariant.1, room c.loop-k.k c.args.times c.args.at c.args.src.now c.args.buf.now (omega arith) c.requires)

pub loop-k-preserved : goal.loop-k-preserved
loop-k-preserved c =
    let l = c.loop-k in
    let a = c.args in
    let size = repeat_length l.k a.src.now in
    let h : a.at + length (repeat l.k a.src.now) ≤ length a.buf.now = omega (arith, size, room l.k a.times a.at a.src.now a.buf.now (omega arith) c.requires) in
    (c.copy.ensures ∙ rw (l.invariant.0, ← size) (pasted_again a.buf.now a.at l.k a.src.now h), omega (arith, l.invariant.1))

pub returns : goal.returns
returns c =
    let a = c.args in
    let all : c.loop-k.k ≡ a.times = omega arith in
    rw (← all) c.loop-k.invariant.0
