-- `sise_parser::item_ahead` meets its contract: refusals 11 and 9 first, then what token_ahead answers, behind the blanks.
use mathlib.Core.Path.{sym, ◌∙◌}
use denote.Enum.Bare.{same_true, same_false}
use Rattle.sise_parser.specs.contracts.reader.Phase.{the_type}
use Rattle.sise_parser.proofs.Calls.{next_unsound, next_finishing}
use Rattle.sise_parser.proofs.Looking.{sound_behind, next_behind}
use Rattle.sise_parser.proofs.reader.item_ahead.Goals as goal

pub returns-then-not-is_sound : goal.returns-then-not-is_sound
returns-then-not-is_sound c = c.answered.ensures ∙ next_unsound c.args.text.now _ (sym c.is_sound.ensures ∙ c.if-not-is_sound.true)

pub returns-then-eq : goal.returns-then-eq
returns-then-eq c =
    c.answered-then-eq.ensures
    ∙ next_finishing c.args.text.now _ (sym c.is_sound.ensures ∙ c.if-not-is_sound.false) (same_true the_type _ _ _ (sym c.eq.ensures ∙ c.if-eq.true))

pub token_ahead-requires-clause-sound : goal.token_ahead-requires-clause-sound
token_ahead-requires-clause-sound c =
    sound_behind c.args.text.now _ (sym c.is_sound.ensures ∙ c.if-not-is_sound.false) c.skip_blanks-start.ensures.same c.skip_blanks-start.ensures.after

pub token_ahead-requires-clause-early : goal.token_ahead-requires-clause-early
token_ahead-requires-clause-early c = same_false the_type _ _ (sym c.eq.ensures ∙ c.if-eq.false)

pub returns : goal.returns
returns c =
    let s = c.skip_blanks-start.ensures in
    c.token_ahead.ensures
    ∙ next_behind c.args.text.now _ (sym c.is_sound.ensures ∙ c.if-not-is_sound.false) s.same s.after (same_false the_type _ _ (sym c.eq.ensures ∙ c.if-eq.false)) s.token
