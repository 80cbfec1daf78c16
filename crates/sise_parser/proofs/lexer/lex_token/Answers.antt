-- `sise_parser::lex_token` meets its contract. What the two loops keep: what the definition says from the place where the call began is what it says from
-- here, between tokens or in a comment.
use mathlib.Core.Path.{◌≡◌, refl, sym, ◌∙◌}
use mathlib.Core.Logic.{⊎_elim}
use Prim.Native.Nat.{ℕ}
use native.Mathlib.Omega.{arith}
use native.Mathlib.Nat.{le_refl}
use Rattle.sise_parser.proofs.Steps.{between_end, comment_end, comment_line_end, comment_wrong, comment_on}
use Rattle.sise_parser.proofs.ByteSteps.{between_comment, between_open, between_close, between_atom, between_string, between_wrong}
use Rattle.sise_parser.proofs.Runs.{run_begins, run_none}
use Rattle.sise_parser.proofs.lexer.lex_token.Goals as goal

-- what a byte is not, the text's is not at its place
other : {b d n : ℕ} → b ≡ d → (b ≡ n → ⊥) → d ≡ n → ⊥
other e k m = k (e ∙ m)

pub token-init : goal.token-init
token-init c = record { stop = c.requires.stop; run = c.requires.run; same = refl }

pub comment-init : goal.comment-init
comment-init c =
    let b = c.in-Some.ensures.lookup.3 in
    record { after = le_refl _; same = c.token.invariant.same ∙ between_comment _ _ b.0 (sym (b.1 0) ∙ c.in-59.is) }

pub token-preserved : goal.token-preserved
token-preserved c =
    record {
      stop = c.skip_blanks-at.ensures.stop;
      run = c.next_run-end.ensures;
      same = c.comment.invariant.same ∙ comment_line_end c.class_at.ensures c.in-4.is ∙ c.skip_blanks-at.ensures.token;
    }

pub comment-preserved : goal.comment-preserved
comment-preserved c = record { after = omega arith; same = c.comment.invariant.same ∙ comment_on c.class_at.ensures search }

pub returns-in_default : goal.returns-in_default
returns-in_default c = c.found.ensures ∙ sym (c.token.invariant.same ∙ between_end _ c.in_default.ensures.lookup.3)

pub returns-in-40 : goal.returns-in-40
returns-in-40 c =
    let b = c.in-Some.ensures.lookup.3 in
    c.found-in-40.ensures ∙ sym (c.token.invariant.same ∙ between_open _ _ b.0 (sym (b.1 0) ∙ c.in-40.is))

pub returns-in-41 : goal.returns-in-41
returns-in-41 c =
    let b = c.in-Some.ensures.lookup.3 in
    c.found-in-41.ensures ∙ sym (c.token.invariant.same ∙ between_close _ _ b.0 (sym (b.1 0) ∙ c.in-41.is))

pub returns-then-text-at : goal.returns-then-text-at
returns-then-text-at c = c.found-then-text-at.ensures ∙ sym (c.comment.invariant.same ∙ comment_end _ c.if-text-at.true)

pub returns-in-6 : goal.returns-in-6
returns-in-6 c = c.wrong_chr.ensures ∙ sym (c.comment.invariant.same ∙ comment_wrong c.class_at.ensures c.in-6.is)

pub returns-in_default-byte : goal.returns-in_default-byte
returns-in_default-byte c =
    let b = c.in-Some.ensures.lookup.3 in
    c.lex_atom.ensures
    ∙ sym
    (c.token.invariant.same
    ∙ ⊎_elim (λ e. between_string _ _ b.0 (sym (b.1 0) ∙ e)) (λ e. between_atom _ _ b.0 (run_begins _ _ _ c.token.invariant.run e.1)) c.if-at-end.either)

pub returns-in_default-2 : goal.returns-in_default-2
returns-in_default-2 c =
    let b = c.in-Some.ensures.lookup.3 in
    let is = b.1 0 in
    c.wrong_chr-in_default-2.ensures
    ∙ sym
    (c.token.invariant.same
    ∙ between_wrong _ _ b.0
    (c.token.invariant.stop b.0)
    (other is search)
    (other is search)
    (other is search)
    (run_none _ _ _ c.token.invariant.run c.if-at-end.false.1 b.0)
    (other is c.if-at-end.false.0))
