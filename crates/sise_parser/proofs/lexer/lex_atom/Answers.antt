-- `sise_parser::lex_atom` meets its contract: a run is passed by what Runs.antt says of it, a string by lex_string's own promise.
use mathlib.Core.Path.{◌≡◌, sym, ◌∙◌, subst}
use mathlib.Core.List.{List}
use Prim.Native.Nat.{ℕ, ◌<◌}
use native.Mathlib.Omega.{arith}
use lib.Dec.{ltb}
use lib.ListN.{length, get_or}
use borrow.Author.Tests.{eqb-true, eqb-false, ltb-true, ltb-false}
use Rattle.std.proofs.lemmas.Result.{err_from_is_err_and}
use Rattle.std.proofs.lemmas.List.{get_or_past}
use Rattle.std.specs.Prelude.{Result}
use Rattle.sise_util.proofs.Ranges.{split}
use Rattle.sise_parser.specs.Meaning.{Ends}
use Rattle.sise_parser.specs.declared.lexer.Wrong.{Wrong}
use Rattle.sise_parser.proofs.Runs.{runs_to, run_ends}
use Rattle.sise_parser.proofs.ByteSteps.{plain_string_lem}
use Rattle.sise_parser.proofs.lexer.lex_atom.Goals as goal

-- a string's end, where it is known which it is
known : {text : List ℕ} {from : ℕ} {r e : Result ℕ Wrong} → Ends text from r → r ≡ e → Ends text from e
known {text} {from} x d = subst (Ends text from) d x

-- a `"` stands in the text, and not behind its end
within : (text : List ℕ) (p : ℕ) → get_or text p 0 ≡ 34 → p < length text
within text p e = split (ltb p (length text)) (λ l. ltb-true p (length text) l) (λ l. absurd (let z = get_or_past text p 0 (ltb-false p (length text) l) in omega (arith, e, z)))

pub loop-at-init : goal.loop-at-init
loop-at-init c =
    let a = runs_to c.args.text.now c.args.start _ c.requires.run in
    record { after = a.after; same = a.same _; ran = (_, a) }

pub loop-at-preserved : goal.loop-at-preserved
loop-at-preserved c =
    let text = c.args.text.now in
    let at = c.loop-at.at in
    let q = eqb-true (get_or text at 0) 34 (sym c.is_quote_at.ensures ∙ c.loop-at-test.true) in
    let e = known c.lex_string.ensures c.in_ok-lex_string.was in
    let a = runs_to text _ _ c.atom_run-at.ensures.same in
    record {
      after = omega (arith, c.loop-at.invariant.after, e.after.0, c.atom_run-at.ensures.after);
      same = c.loop-at.invariant.same ∙ plain_string_lem text at (within text at q) c.args.start q ∙ e.same _ ∙ a.same _;
      ran = (_, a);
    }

pub returns-in_err-lex_string : goal.returns-in_err-lex_string
returns-in_err-lex_string c =
    let text = c.args.text.now in
    let at = c.loop-at.at in
    let q = eqb-true (get_or text at 0) 34 (sym c.is_quote_at.ensures ∙ c.loop-at-test.true) in
    let p = err_from_is_err_and c.from_residual.result c.from_residual.ensures.1 in
    let e = known c.lex_string.ensures c.in_err-lex_string.was in
    rw (p.1, p.2) (sym (c.loop-at.invariant.same ∙ plain_string_lem text at (within text at q) c.args.start q ∙ e.same c.args.start))

pub returns : goal.returns
returns c =
    let q = eqb-false (get_or c.args.text.now c.loop-at.at 0) 34 (sym c.is_quote_at.ensures ∙ c.loop-at-test.false) in
    c.found.ensures ∙ sym (c.loop-at.invariant.same ∙ run_ends c.loop-at.invariant.ran.1 q _)
