-- Document 01's worked text, read into words, by computation; and `a b`, whose rest finish refuses.
-- Assumes nothing.
use Rattle.std.specs.Prelude.{◌≡◌, refl, [], ◌∷◌}
use Rattle.sise_util.specs.Chars.{within}
use Rattle.sise_util.specs.Classes.{class_of}
use Rattle.sise_util.specs.Utf8.{character, by_rows, forms, follow}
use Rattle.sise_parser.specs.Refusals.{refusal}
use Rattle.sise_parser.specs.Lexer.{wrong, between, comment, plain, string, escape}
use Rattle.sise_parser.specs.Reader.{is_sound, token_at, in_beginning, in_parsing, next_in, next_item, ended, not_ended, ends_at, finish_in, finish_reading}
use Rattle.sise_parser.specs.Examples.{worked_text}
use Rattle.sise_c.specs.Items.{items_from, ending_from, items_of, ending_of, all_words}

-- `(z (+1 "a b") ~)`
pub worked_words : all_words (items_of worked_text) ≡
    1 ∷ 0 ∷ 0 ∷ 0 ∷
    0 ∷ 1 ∷ 1 ∷ 0 ∷
    1 ∷ 3 ∷ 0 ∷ 0 ∷
    0 ∷ 4 ∷ 2 ∷ 0 ∷
    0 ∷ 7 ∷ 5 ∷ 0 ∷
    2 ∷ 12 ∷ 0 ∷ 0 ∷
    0 ∷ 14 ∷ 1 ∷ 0 ∷
    2 ∷ 15 ∷ 0 ∷ 0 ∷
    []
unfolding worked_text all_words items_of items_from next_item next_in is_sound token_at in_beginning in_parsing between comment plain string escape wrong class_of character by_rows forms follow within
worked_words = refl

pub worked_ending : ending_of worked_text ≡ ended
unfolding worked_text ending_of ending_from next_item next_in is_sound token_at in_beginning in_parsing finish_reading finish_in ends_at between comment plain string escape wrong class_of character by_rows forms follow within
worked_ending = refl

pub two_atoms : ending_of (97 ∷ 32 ∷ 98 ∷ []) ≡ not_ended (refusal 7 2 0)
unfolding ending_of ending_from next_item next_in is_sound token_at in_beginning in_parsing finish_reading finish_in ends_at between comment plain string escape wrong class_of character by_rows forms follow within
two_atoms = refl
