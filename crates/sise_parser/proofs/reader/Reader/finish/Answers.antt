-- `sise_parser::Reader::finish` meets its contract: refusals 11 and 10 first, then whether the token is the text's end.
use mathlib.Core.Path.{◌≡◌, refl, sym, ap, ◌∙◌}
use denote.Enum.Bare.{differs_true, differs_false}
use Rattle.std.proofs.lemmas.Result.{err_from_is_err_and}
use Rattle.sise_parser.specs.Refusals.{refusal}
use Rattle.sise_parser.specs.Lexer.{found}
use Rattle.sise_parser.specs.Reader.{token_at, ended, not_ended, ends_at}
use Rattle.sise_parser.specs.Meaning.{lexeme_as, token_as}
use Rattle.sise_parser.specs.contracts.reader.Phase.{the_type}
use Rattle.sise_parser.specs.declared.lexer.Lexeme.{Lexeme}
use Rattle.sise_parser.specs.declared.lexer.Token.{Token}
use Rattle.sise_parser.specs.declared.lexer.Token.TheVariants.{Eof, LeftParen, RightParen, Atom}
use Rattle.sise_parser.proofs.Calls.{finish_unsound, finish_early, finish_token}
use Rattle.sise_parser.proofs.reader.Reader.finish.Goals as goal

-- the token is the end, or another
at_end_lem : (x : Lexeme) → x.token ≡ Eof → ended ≡ ends_at (lexeme_as x)
unfolding ends_at
at_end_lem x d = ap (λ (v : Token). ends_at (found (token_as v) x.start x.end)) (sym d)

before_end : (x : Lexeme) → (x.token ≡ Eof → ⊥) → not_ended (refusal 7 x.start 0) ≡ ends_at (lexeme_as x)
unfolding ends_at
before_end x k = go x.token k
  where
    go : (v : Token) → (v ≡ Eof → ⊥) → not_ended (refusal 7 x.start 0) ≡ ends_at (found (token_as v) x.start x.end)
    go Eof k = absurd (k refl)
    go LeftParen k = refl
    go RightParen k = refl
    go (Atom n) k = refl

pub returns-then-not-is_sound : goal.returns-then-not-is_sound
returns-then-not-is_sound c = finish_unsound c.args.text.now c.args.self (sym c.is_sound.ensures ∙ c.if-not-is_sound.true)

pub returns-then-ne : goal.returns-then-ne
returns-then-ne c = finish_early c.args.text.now c.args.self (sym c.is_sound.ensures ∙ c.if-not-is_sound.false) (differs_true the_type _ _ (sym c.ne.ensures ∙ c.if-ne.true))

pub returns-in_err-found : goal.returns-in_err-found
unfolding token_at ends_at
returns-in_err-found c =
    let p = err_from_is_err_and c.from_residual.result c.from_residual.ensures.1 in
    rw (p.1, p.2) (finish_token c.args.text.now c.args.self (sym c.is_sound.ensures ∙ c.if-not-is_sound.false) (differs_false the_type _ _ _ (sym c.ne.ensures ∙ c.if-ne.false)) (c.in_err-found.ensures ∙ sym c.skip_blanks-start.ensures.token))

pub returns-in-Eof : goal.returns-in-Eof
unfolding token_at
returns-in-Eof c =
    at_end_lem c.in_ok-found.found c.in-Eof.is
    ∙ finish_token c.args.text.now c.args.self (sym c.is_sound.ensures ∙ c.if-not-is_sound.false) (differs_false the_type _ _ _ (sym c.ne.ensures ∙ c.if-ne.false)) (c.in_ok-found.ensures ∙ sym c.skip_blanks-start.ensures.token)

pub returns-in_default : goal.returns-in_default
unfolding token_at
returns-in_default c =
    before_end c.in_ok-found.found c.in_default.not-Eof
    ∙ finish_token c.args.text.now c.args.self (sym c.is_sound.ensures ∙ c.if-not-is_sound.false) (differs_false the_type _ _ _ (sym c.ne.ensures ∙ c.if-ne.false)) (c.in_ok-found.ensures ∙ sym c.skip_blanks-start.ensures.token)
