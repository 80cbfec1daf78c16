-- What the loop keeps: what the test says inside the string at `at` is what it says from where the string's inside begins. Each byte is one of its steps.
use mathlib.Core.Path.{◌≡◌, refl, sym, ap, ◌∙◌}
use mathlib.Core.Bool.{Bool, true, false, cond}
use mathlib.Core.List.{List}
use Prim.Native.Nat.{ℕ, ◌+◌, ◌≤◌, ◌<◌}
use native.Mathlib.Omega.{arith}
use lib.Dec.{eqb}
use lib.ListN.{length, drop, get_or, drop_of_length-le}
use borrow.Author.Tests.{eq-eqb, ne_eqb}
use Rattle.sise_util.specs.Chars.{is_string_chr, is_escaped_chr}
use Rattle.sise_util.specs.Atom.{outside, inside, escaped, ends_string, ends_escaped}
use Rattle.sise_util.proofs.Lists.{drop-next}
use Rattle.sise_util.proofs.AtomLaws.{inside_cons, escaped_one}
use Rattle.sise_util.proofs.KindLaws.{nothing_left}
use Rattle.sise_util.proofs.util.string_end.Invariants.{Due}
use Rattle.sise_util.proofs.util.string_end.Goals as goal
use Rattle.sise_util.proofs.util.string_end.Goals.{then-atom-at-via-then-atom-at, then-atom-at-via-else-atom-at+then-not-is_escaped_chr}

-- the steps of the test at the byte b, after which l is left
module _ {x y : Bool} {s : List ℕ} {at : ℕ} (d : Due x y s at) (h : at < length s) where
  abbrev b : ℕ
  b = get_or s at 0

  abbrev l : List ℕ
  l = drop (at + 1) s

  within : cond (eqb b 34) (outside l) (cond (eqb b 92) (escaped l) (cond (is_string_chr b) (inside l) false)) ≡ x
  within = sym (ap inside (drop-next s at h) ∙ inside_cons b l) ∙ d.same

  last : cond (eqb b 34) (eqb (length l) 0) (cond (eqb b 92) (ends_escaped l) (ends_string l)) ≡ y
  unfolding ends_string
  last = sym (ap ends_string (drop-next s at h)) ∙ d.ends

  leave_last : b ≡ 34 → y ≡ eqb (at + 1) (length s)
  leave_last q = sym (rw (eq-eqb b 34 q) at last) ∙ nothing_left (at + 1) s (omega arith)

  leave : b ≡ 34 → outside l ≡ x
  leave q = rw (eq-eqb b 34 q) at within

  on : (b ≡ 34 → ⊥) → (b ≡ 92 → ⊥) → is_string_chr b ≡ true → Due x y s (at + 1)
  on q k a = record { same = rw (ne_eqb b 34 q, ne_eqb b 92 k, a) at within; ends = rw (ne_eqb b 34 q, ne_eqb b 92 k) at last }

  stop : (b ≡ 34 → ⊥) → (b ≡ 92 → ⊥) → is_string_chr b ≡ false → x ≡ false
  stop q k a = sym (rw (ne_eqb b 34 q, ne_eqb b 92 k, a) at within)

  -- after \, at the next byte
  escape : (b ≡ 34 → ⊥) → b ≡ 92 → escaped l ≡ x
  escape q k = rw (ne_eqb b 34 q, eq-eqb b 92 k) at within

  escape_end : (b ≡ 34 → ⊥) → b ≡ 92 → length s ≤ at + 1 → x ≡ false
  unfolding escaped
  escape_end q k u = sym (rw (drop_of_length-le s u) at (escape q k))

  escape_test : (b ≡ 34 → ⊥) → b ≡ 92 → at + 1 < length s → cond (is_escaped_chr (get_or s (at + 1) 0)) (inside (drop (at + 1 + 1) s)) false ≡ x
  escape_test q k u = sym (ap escaped (drop-next s (at + 1) u) ∙ escaped_one (get_or s (at + 1) 0) (drop (at + 1 + 1) s)) ∙ escape q k

  escape_on : (b ≡ 34 → ⊥) → b ≡ 92 → at + 1 < length s → is_escaped_chr (get_or s (at + 1) 0) ≡ true → Due x y s (at + 1 + 1)
  unfolding ends_escaped
  escape_on q k u a = record { same = rw a at (escape_test q k u); ends = sym (ap ends_escaped (drop-next s (at + 1) u)) ∙ (rw (ne_eqb b 34 q, eq-eqb b 92 k) at last) }

  escape_stop : (b ≡ 34 → ⊥) → b ≡ 92 → at + 1 < length s → is_escaped_chr (get_or s (at + 1) 0) ≡ false → x ≡ false
  escape_stop q k u a = sym (rw a at (escape_test q k u))

-- a string that the end cuts off
unclosed : {x y : Bool} {s : List ℕ} {at : ℕ} → Due x y s at → length s ≤ at → x ≡ false
unfolding inside
unclosed {s = s} d h = sym d.same ∙ ap inside (drop_of_length-le s h)

pub loop-at-init : goal.loop-at-init
loop-at-init c = (record { same = refl; ends = refl }, omega arith)

pub returns-then-chr-eq34 : goal.returns-then-chr-eq34
returns-then-chr-eq34 c =
    let i = c.loop-at.invariant in
    record { on = omega (arith, i.1); within = omega arith; same = leave i.0 (omega arith) c.if-chr-eq34.true; whole = leave_last i.0 (omega arith) c.if-chr-eq34.true }

pub returns-then-atom-at : goal.returns-then-atom-at
returns-then-atom-at c =
    elim c.then-atom-at.branch [
      | then-atom-at-via-then-atom-at w ↦ escape_end c.loop-at.invariant.0 (omega arith) c.if-chr-eq34.false c.if-chr-eq92.true w.if-atom-at.true
      | then-atom-at-via-else-atom-at+then-not-is_escaped_chr w ↦
          escape_stop c.loop-at.invariant.0 (omega arith) c.if-chr-eq34.false c.if-chr-eq92.true w.if-atom-at.false (sym w.is_escaped_chr.ensures ∙ w.if-not-is_escaped_chr.true)
    ]

pub loop-at-preserved-then-chr-eq92 : goal.loop-at-preserved-then-chr-eq92
loop-at-preserved-then-chr-eq92 c = let i = c.loop-at.invariant in (escape_on i.0 (omega arith) c.if-chr-eq34.false c.if-chr-eq92.true c.if-atom-at.false (sym c.is_escaped_chr.ensures ∙ c.if-not-is_escaped_chr.false), omega (arith, i.1))

pub returns-then-not-is_atom_string_chr : goal.returns-then-not-is_atom_string_chr
returns-then-not-is_atom_string_chr c = stop c.loop-at.invariant.0 (omega arith) c.if-chr-eq34.false c.if-chr-eq92.false (sym c.is_atom_string_chr.ensures ∙ c.if-not-is_atom_string_chr.true)

pub loop-at-preserved : goal.loop-at-preserved
loop-at-preserved c = let i = c.loop-at.invariant in (on i.0 (omega arith) c.if-chr-eq34.false c.if-chr-eq92.false (sym c.is_atom_string_chr.ensures ∙ c.if-not-is_atom_string_chr.false), omega (arith, i.1))

pub returns : goal.returns
returns c = unclosed c.loop-at.invariant.0 c.loop-at-test.false
