-- What the loop keeps: the run of atom characters, and the atom, are the same from here as from the start, where an atom begins if the run is not empty.
use mathlib.Core.Path.{◌≡◌, refl, sym, ap, ◌∙◌, subst}
use mathlib.Core.Bool.{true}
use mathlib.Core.List.{List}
use Prim.Native.Nat.{ℕ, ◌+◌, ◌≤◌, ◌<◌, max}
use native.Mathlib.Omega.{arith}
use native.Mathlib.Nat.{le_refl}
use lib.Dec.{eqb}
use lib.ListN.{length, drop, get_or}
use borrow.Author.Tests.{eqb-true, eqb-false}
use Rattle.sise_util.specs.Chars.{is_atom_chr}
use Rattle.sise_util.proofs.Ranges.{split}
use Rattle.sise_parser.specs.Lexer.{between, plain}
use Rattle.sise_parser.specs.Plain.{AtomTo}
use Rattle.sise_parser.proofs.Steps.{plain_end, run_end}
use Rattle.sise_parser.proofs.ByteSteps.{between_atom, plain_atom, plain_stop, run_on, run_stops}
use Rattle.sise_parser.proofs.lexer.atom_run.Invariants.{InRun}
use Rattle.sise_parser.proofs.lexer.atom_run.Goals as goal

goes_on : (text : List ℕ) (start at : ℕ) → at < length text → InRun text start at → is_atom_chr (get_or text at 0) ≡ true → InRun text start (at + 1)
goes_on text start at h v y =
    record {
      after = omega (arith, v.after);
      within = omega arith;
      same = v.same ∙ run_on text at h y;
      token = λ l. begun ∙ plain_atom text at h start y;
    }
  where
    later : (start ≡ at → ⊥) → start ≤ at → start < at
    later n l = omega arith

    begun : between (drop start text) start ≡ plain (drop at text) at start
    begun =
        split (eqb start at)
        (λ t. let e = eqb-true start at t in ap (λ (p : ℕ). between (drop p text) p) e ∙ between_atom text at h y ∙ ap (plain (drop at text) at) (sym e))
        (λ t. v.token (later (eqb-false start at t) v.after))

pub loop-at-init : goal.loop-at-init
loop-at-init c = record { after = le_refl _; within = omega arith; same = refl; token = λ l. absurd (omega arith) }

-- behind the last byte, or where the call began if that is past it
at_end : {text : List ℕ} {start at r : ℕ} → InRun text start at → length text ≤ at → r ≡ max start (length text) → at ≡ r
at_end v u e = omega (arith, v.after, v.within)

pub returns : goal.returns
returns c =
    let v = c.loop-at.invariant in
    let u = c.loop-at-test.false in
    let e = at_end v u c.max.ensures in
    record {
      same = sym (v.same ∙ run_end _ u ∙ e);
      after = omega (arith, v.after, e);
      token = subst (AtomTo c.args.text.now c.args.start) e (λ l n. v.token l ∙ plain_end _ u _);
    }

pub loop-at-preserved : goal.loop-at-preserved
loop-at-preserved c = goes_on _ _ _ c.loop-at-test.true c.loop-at.invariant (sym c.is_atom_byte.ensures ∙ c.if-not-is_atom_byte.false)

pub returns-then-not-is_atom_byte : goal.returns-then-not-is_atom_byte
returns-then-not-is_atom_byte c =
    let v = c.loop-at.invariant in
    let h = c.loop-at-test.true in
    let no = sym c.is_atom_byte.ensures ∙ c.if-not-is_atom_byte.true in
    record {
      same = sym (v.same ∙ run_stops _ _ h no);
      after = v.after;
      token = λ l n. v.token l ∙ plain_stop _ _ h _ no n;
    }
