-- `sise_parser::token_gives` meets its contract: what the token behind the blanks gives in the phase.
use mathlib.Core.Path.{sym, ap, ◌∙◌}
use native.Mathlib.Omega.{arith}
use denote.Enum.Bare.{same_true, same_false}
use Rattle.sise_parser.specs.Reader.{token_at}
use Rattle.sise_parser.specs.Meaning.{lexed_as}
use Rattle.sise_parser.specs.contracts.reader.Phase.{the_type}
use Rattle.sise_parser.proofs.Calls.{parsing_lists, is_parsing, next_beginning, next_parsing, next_bad}
use Rattle.sise_parser.proofs.reader.token_gives.Goals as goal

pub inner_item-requires : goal.inner_item-requires
unfolding token_at
inner_item-requires c =
    let b = same_false the_type _ _ (sym c.eq.ensures ∙ c.if-eq.false) in
    let n = parsing_lists _ _ c.requires.sound (is_parsing c.args.phase c.requires.early b) in
    (n.0, omega (arith, n.1))

pub returns-in-Err : goal.returns-in-Err
unfolding token_at
returns-in-Err c =
    c.answered.ensures
    ∙ next_bad c.args.text.now _ c.requires.sound c.requires.early
    (ap lexed_as (sym c.in-Err.is) ∙ c.lex_token.ensures)

pub returns-then-eq : goal.returns-then-eq
unfolding token_at
returns-then-eq c =
    c.first_item.ensures
    ∙ next_beginning c.args.text.now _ c.requires.sound (same_true the_type _ _ _ (sym c.eq.ensures ∙ c.if-eq.true))
    (ap lexed_as (sym c.in-Ok.is) ∙ c.lex_token.ensures)

pub returns-else-eq : goal.returns-else-eq
unfolding token_at
returns-else-eq c =
    let b = same_false the_type _ _ (sym c.eq.ensures ∙ c.if-eq.false) in
    c.inner_item.ensures
    ∙ next_parsing c.args.text.now _ c.requires.sound (is_parsing _ c.requires.early b)
    (ap lexed_as (sym c.in-Ok.is) ∙ c.lex_token.ensures)
