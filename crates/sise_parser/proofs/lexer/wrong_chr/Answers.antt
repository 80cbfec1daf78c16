-- `sise_parser::wrong_chr` meets its contract: the character is decoded as the definition does, and lies within the text.
use mathlib.Core.Path.{◌≡◌, sym, ap, ◌∙◌}
use mathlib.Core.List.{List}
use Prim.Native.Nat.{ℕ, ◌+◌}
use native.Mathlib.Omega.{arith}
use lib.ListN.{length-drop}
use Rattle.sise_util.specs.Utf8.{well, ill, character}
use Rattle.sise_util.proofs.Utf8Laws.{size_fits, broken_fits}
use Rattle.sise_parser.specs.Refusals.{refusal, Refusal}
use Rattle.sise_parser.specs.Lexer.{bad, wrong}
use Rattle.sise_parser.proofs.lexer.wrong_chr.Goals as goal

wrong_well : (n p c k : ℕ) (l : List ℕ) → character l ≡ well c k → wrong n l p ≡ bad (refusal n p c) (p + k)
unfolding wrong
wrong_well n p c k l e = rw (e, wrong)

wrong_ill : (n p k : ℕ) (l : List ℕ) → character l ≡ ill k → wrong n l p ≡ bad (refusal 8 p 0) (p + k)
unfolding wrong
wrong_ill n p k l e = rw (e, wrong)

placed : {e f : Refusal} {q : ℕ} → e ≡ f → bad e q ≡ bad f q
placed {q = q} d = ap (λ (r : Refusal). bad r q) d

pub overflow_add-result : goal.overflow_add-result
overflow_add-result c =
    let w = size_fits _ (sym c.character_at.ensures ∙ c.in-Ok.is) in
    omega (arith, w, length-drop c.args.at c.args.text.now)

pub overflow_add-result-in-Err : goal.overflow_add-result-in-Err
overflow_add-result-in-Err c =
    let w = broken_fits _ (sym c.character_at.ensures ∙ c.in-Err.is) in
    omega (arith, w, length-drop c.args.at c.args.text.now)

pub returns-in-Ok : goal.returns-in-Ok
returns-in-Ok c =
    placed c.illegal_chr.ensures
    ∙ sym (wrong_well _ _ _ _ _ (sym c.character_at.ensures ∙ c.in-Ok.is))

pub returns-in-Err : goal.returns-in-Err
returns-in-Err c = sym (wrong_ill _ _ _ _ (sym c.character_at.ensures ∙ c.in-Err.is))
