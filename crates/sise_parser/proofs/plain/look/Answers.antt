-- In a sound record while parsing, what the token at its place or behind the blanks gives is what next_item gives.
use Rattle.std.proofs.Common.{◌≡◌, length, true, sym, subst, arith, ◌∙◌, refl}
use mathlib.Core.Logic.{⊎_elim}
use denote.Enum.Bare.{differs_true, differs_false}
use Rattle.std.proofs.lemmas.Bool.{false≢true}
use Rattle.sise_parser.specs.contracts.reader.Phase.{the_type}
use Rattle.sise_parser.specs.Reader.{reader, is_sound, token_at, next_item}
use Rattle.sise_parser.specs.declared.reader.Phase.{Phase}
use Rattle.sise_parser.proofs.Calls.{sound_parts, parsing_lists, next_parsing}
use Rattle.sise_parser.proofs.Looking.{bracket_is, bracket_here, none_past, parsing_early, sound_behind, next_behind, plain_parsing}
use Rattle.sise_parser.proofs.plain.look.Goals as goal

pub returns-then-ne : goal.returns-then-ne
returns-then-ne c =
    let text = c.args.text.now in
    let r = c.args.reader in
    λ sound p.
    ⊎_elim (λ e. differs_true the_type _ _ (sym c.ne.ensures ∙ e) (plain_parsing text r sound p)) (λ e. none_past text r e.1 p) c.then-ne.either

pub bracket_at-requires : goal.bracket_at-requires
bracket_at-requires c = (sound_parts _ c.args.reader (sym c.is_sound.ensures ∙ c.if-not-is_sound.false)).opened

pub returns-in-Some : goal.returns-in-Some
unfolding token_at
returns-in-Some c =
    let text = c.args.text.now in
    let r = c.args.reader in
    let sound = sym c.is_sound.ensures ∙ c.if-not-is_sound.false in
    let parsing = differs_false the_type _ _ _ (sym c.ne.ensures ∙ c.if-ne.false) in
    let at = c.in-Some.ensures.when.0 refl in
    (sound, ((parsing_lists _ r sound parsing).0, rw (bracket_here text r.lists r.position at) (bracket_is text r.lists r.position at)), c.in-Some.ensures.item ∙ next_parsing text r sound parsing refl)

pub plain_at-requires : goal.plain_at-requires
plain_at-requires c = let o = (sound_parts _ c.args.reader (sym c.is_sound.ensures ∙ c.if-not-is_sound.false)).opened in omega (arith, c.skip_blanks-start.ensures.after)

pub returns-in-Ok : goal.returns-in-Ok
unfolding token_at
returns-in-Ok c =
    let text = c.args.text.now in
    let r = c.args.reader in
    let sound = sym c.is_sound.ensures ∙ c.if-not-is_sound.false in
    let parsing = differs_false the_type _ _ _ (sym c.ne.ensures ∙ c.if-ne.false) in
    let at = c.in-Ok.ensures.when.0 refl in
    (sound, ((parsing_lists _ r sound parsing).0, rw (← c.skip_blanks-start.ensures.same) at), c.in-Ok.ensures.item ∙ next_parsing text r sound parsing (sym c.skip_blanks-start.ensures.token))

pub returns-in-Err : goal.returns-in-Err
returns-in-Err c =
    let text = c.args.text.now in
    let r = c.args.reader in
    let sound = sym c.is_sound.ensures ∙ c.if-not-is_sound.false in
    let parsing = differs_false the_type _ _ _ (sym c.ne.ensures ∙ c.if-ne.false) in
    let s = c.skip_blanks-start.ensures in (
      λ p. false≢true (c.in-Err.ensures.when.1 (rw s.same p.1)),
      record {
        sound = subst (λ (f : Phase). is_sound (length text) (reader c.skip_blanks-start.result f r.lists) ≡ true) parsing (sound_behind text r sound s.same s.after);
        same = subst (λ (f : Phase). next_item text (reader c.skip_blanks-start.result f r.lists) ≡ next_item text r) parsing (next_behind text r sound s.same s.after (parsing_early parsing) s.token);
        stop = s.stop;
        run = c.in-Err.ensures.run;
      },
    )
