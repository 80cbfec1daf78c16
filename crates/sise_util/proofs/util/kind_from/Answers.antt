-- Each turn passes a string and the atom characters behind it, by what the test says at a `"`; at the end of the atom it has a `"` and is more than one string.
use mathlib.Core.Path.{◌≡◌, sym, ap, ◌∙◌, subst}
use mathlib.Core.Bool.{true, false, cond}
use mathlib.Core.List.{List, [], ◌∷◌}
use Prim.Native.Nat.{ℕ, zero, suc, ◌+◌, ◌≤◌, ◌<◌}
use native.Mathlib.Omega.{arith}
use lib.Dec.{eqb}
use lib.ListN.{length, drop, get_or, drop_of_length-le, length-drop}
use borrow.Author.Tests.{eq-eqb, ne_eqb, eqb-true, eqb-false}
use Rattle.std.specs.Prelude.{Some, None}
use Rattle.std.proofs.lemmas.List.{take_rest, drop-drop, get_or-drop}
use Rattle.sise_util.specs.Chars.{is_atom_chr}
use Rattle.sise_util.specs.Atom.{outside, inside, is_atom, has_quote, ends_string, is_string, kind_of}
use Rattle.sise_util.specs.declared.util.AtomKind.TheVariants.{String, Mixed}
use Rattle.sise_util.specs.Parts.{StringTo, PlainTo, StopsAt}
use Rattle.sise_util.proofs.Lists.{drop-next}
use Rattle.sise_util.proofs.Ranges.{split}
use Rattle.sise_util.proofs.AtomLaws.{outside_cons, plain_passes}
use Rattle.sise_util.proofs.PlainRuns.{run_chrs, some_atom, no_string}
use Rattle.sise_util.proofs.KindLaws.{kind_no, kind_string, kind_mixed}
use Rattle.sise_util.proofs.util.kind_from.Invariants.{Due}
use Rattle.sise_util.proofs.util.kind_from.Goals as goal

-- a `"` that stands in some bytes is among them
quote_at : (s : List ℕ) (n : ℕ) → n < length s → get_or s n 0 ≡ 34 → has_quote s ≡ true
unfolding has_quote
quote_at [] n h e = absurd (omega arith)
quote_at (b ∷ l) zero h e = rw (eq-eqb b 34 e)
quote_at (b ∷ l) (suc n) h e = split (eqb b 34) (λ q. rw q) (λ q. rw q (quote_at l n (omega arith) e))

-- the run of atom characters behind place e of s, in the words of s
module _ (s : List ℕ) (e : ℕ) {n : ℕ} (p : PlainTo (drop e s) n) where
  run_passed : outside (drop (e + n) s) ≡ outside (drop e s)
  run_passed = ap outside (sym (drop-drop n e s)) ∙ plain_passes (drop e s) n (run_chrs (drop e s) n p)

  run_stops : StopsAt (drop e s) n → StopsAt s (e + n)
  run_stops k h = sym (ap is_atom_chr (get_or-drop e s n 0)) ∙ k (omega (arith, length-drop e s))

-- the steps of the test at the byte b, after which l is left
module _ {s : List ℕ} {at : ℕ} (d : Due s at) (h : at < length s) where
  abbrev b : ℕ
  b = get_or s at 0

  abbrev l : List ℕ
  l = drop (at + 1) s

  out : cond (eqb b 34) (inside l) (cond (is_atom_chr b) (outside l) false) ≡ is_atom s
  out = sym (ap outside (drop-next s at h) ∙ outside_cons b l) ∙ d.same

  stopped : (b ≡ 34 → ⊥) → None ≡ kind_of s
  stopped q = kind_no s (sym (rw (ne_eqb b 34 q, d.stop h) at out))

  module _ (q : b ≡ 34) where
    string_due : inside l ≡ is_atom s
    string_due = rw (eq-eqb b 34 q) at out

    unclosed : inside l ≡ false → None ≡ kind_of s
    unclosed e = kind_no s (sym string_due ∙ e)

    -- at the first byte, by the rest
    string_here : at ≡ 0 → is_string s ≡ ends_string l
    unfolding is_string
    string_here z = ap is_string (sym (ap (λ (n : ℕ). drop n s) z) ∙ drop-next s at h) ∙ rw (eq-eqb b 34 q)

    module _ {r : ℕ} (t : StringTo s (at + 1) r) where
      -- all of it
      whole : at ≡ 0 → r ≡ length s → Some String ≡ kind_of s
      unfolding outside
      whole first all =
          kind_string s (sym string_due ∙ sym t.same ∙ ap outside (drop_of_length-le s (omega arith))) (quote_at s at h q) (string_here first ∙ t.whole ∙ eq-eqb r (length s) all)

      passed : {n : ℕ} → (at ≡ 0 → r ≡ length s → ⊥) → PlainTo (drop r s) n → StopsAt (drop r s) n → Due s (r + n)
      passed k p stops = record {
        same = run_passed s r p ∙ t.same ∙ string_due;
        stop = run_stops s r p stops;
        begun = λ _.
            split (eqb at 0)
            (λ f. let first = eqb-true at 0 f in string_here first ∙ t.whole ∙ ne_eqb r (length s) (k first))
            (λ f. d.begun (eqb-false at 0 f));
        quoted = λ _. quote_at s at h q;
      }

starts : {s : List ℕ} {n : ℕ} → n < length s → PlainTo s n → StopsAt s n → Due s n
starts {s} {n} h p k =
    let chrs = run_chrs s n p in
    record { same = plain_passes s n chrs ∙ some_atom s (λ z. absurd (omega arith)); stop = k; begun = no_string s n chrs; quoted = λ z. absurd (omega arith) }

ended : {s : List ℕ} {at : ℕ} → Due s at → length s ≤ at → 0 < length s → Some Mixed ≡ kind_of s
unfolding outside
ended {s} {at} d h some = kind_mixed s (sym d.same ∙ ap outside (drop_of_length-le s h)) (d.quoted h) (d.begun (λ z. absurd (omega arith)))

pub loop-at-init : goal.loop-at-init
loop-at-init c = starts c.requires.0 c.requires.1 c.requires.2

pub returns-then-atom-at-ne34 : goal.returns-then-atom-at-ne34
returns-then-atom-at-ne34 c = stopped c.loop-at.invariant c.loop-at-test.true c.if-atom-at-ne34.true

pub returns-in_err-end : goal.returns-in_err-end
returns-in_err-end c = c.from_residual.ensures ∙ unclosed c.loop-at.invariant c.loop-at-test.true c.if-atom-at-ne34.false c.in_err-end.ensures

pub returns-then-end-atom : goal.returns-then-end-atom
returns-then-end-atom c = whole c.loop-at.invariant c.loop-at-test.true c.if-atom-at-ne34.false c.in_ok-end.ensures (omega arith) (omega arith)

pub loop-at-preserved : goal.loop-at-preserved
loop-at-preserved c =
    let e = take_rest c.args.atom.now c.in_ok-end.end in
    let run = subst (λ (m : List ℕ). PlainTo m c.run_end.result) e c.run_end.ensures.run in
    let stop = subst (λ (m : List ℕ). StopsAt m c.run_end.result) e c.run_end.ensures.stop in
    passed c.loop-at.invariant c.loop-at-test.true c.if-atom-at-ne34.false c.in_ok-end.ensures (λ first all. grind arith) run stop

pub returns : goal.returns
returns c = ended c.loop-at.invariant c.loop-at-test.false (omega (arith, c.requires.0))
