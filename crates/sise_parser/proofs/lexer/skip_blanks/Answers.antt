-- What the loop keeps: the first place that is no blank, and the token, are the same from here as from where the call began.
use mathlib.Core.Path.{◌≡◌, refl, sym, ap, ◌∙◌}
use mathlib.Core.List.{List}
use Prim.Native.Nat.{ℕ, ◌≤◌, max}
use lib.ListN.{length, drop}
use native.Mathlib.Omega.{arith}
use native.Mathlib.Nat.{le_refl}
use Rattle.sise_parser.proofs.Steps.{blanks_end}
use Rattle.sise_parser.proofs.ByteSteps.{between_on, blanks_on, blanks_stop}
use Rattle.sise_parser.specs.Lexer.{between}
use Rattle.sise_parser.proofs.lexer.skip_blanks.Invariants.{Skipped}
use Rattle.sise_parser.proofs.lexer.skip_blanks.Goals as goal

pub loop-at-init : goal.loop-at-init
loop-at-init c = record { after = le_refl _; within = omega arith; same = refl; token = refl }

pub loop-at-preserved : goal.loop-at-preserved
loop-at-preserved c =
    let v = c.loop-at.invariant in
    let y = sym c.is_blank.ensures ∙ c.if-not-is_blank.false in
    record { after = omega (arith, v.after); within = omega arith; same = v.same ∙ blanks_on _ _ c.loop-at-test.true y; token = v.token ∙ between_on _ _ c.loop-at-test.true y }

pub returns-then-not-is_blank : goal.returns-then-not-is_blank
returns-then-not-is_blank c =
    let v = c.loop-at.invariant in
    let n = sym c.is_blank.ensures ∙ c.if-not-is_blank.true in
    record { same = sym (v.same ∙ blanks_stop _ _ c.loop-at-test.true n); after = v.after; token = v.token; stop = λ _. n }

-- behind the last byte, or where the call began if that is past it
at_end : {text : List ℕ} {from at r : ℕ} → Skipped text from at → length text ≤ at → r ≡ max from (length text) → at ≡ r
at_end v u e = omega (arith, v.after, v.within)

pub returns : goal.returns
returns c =
    let v = c.loop-at.invariant in
    let u = c.loop-at-test.false in
    let e = at_end v u c.max.ensures in
    record { same = sym (v.same ∙ blanks_end _ u ∙ e); after = omega (arith, v.after, e); token = v.token ∙ ap (λ (p : ℕ). between (drop p c.args.text.now) p) e; stop = λ l. absurd (omega (arith, u, e)) }
