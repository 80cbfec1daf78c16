-- Worked examples of parse_tree (document 01, "Trees" and "Refusals"), by computation.
-- Assumes nothing.
use Rattle.std.specs.Prelude.{ℕ, ◌≡◌, refl, List, [], ◌∷◌, replicate}
use Rattle.sise_util.specs.Chars.{within}
use Rattle.sise_util.specs.Classes.{class_of}
use Rattle.sise_util.specs.Atom.{kind_prefix, kind_of, is_atom, outside, inside, escaped, has_quote, is_string, ends_string, ends_escaped}
use Rattle.sise_util.specs.Utf8.{character, by_rows, forms, follow}
use Rattle.sise_parser.specs.Refusals.{refusal}
use Rattle.sise_parser.specs.Lexer.{wrong, between, comment, plain, string, escape}
use Rattle.sise_parser.specs.Reader.{reader, fresh_reader, is_sound, token_at, in_beginning, in_parsing, next_in, next_item}
use Rattle.sise_parser.specs.Examples.{worked_text}
use Rattle.sise_parser.specs.declared.reader.Phase.TheVariants.{Parsing, Finishing}
use Rattle.sise_tree.specs.Tree.{size, sizes, children, table_at, tables}
use Rattle.sise_tree.specs.Answers.{answered, refused, refused_with}
use Rattle.sise_tree.specs.ParseTree.{snoc, attach, close, turn, read_stage, read_answer, read_from, read_node, filled_with, parsed, parse_tree}

-- `(z (+1 "a b") ~)` into a table of 26 words: six nodes, and the last two words stay
pub worked_tree_lem : parse_tree worked_text fresh_reader (replicate 26 9) ≡ record {
  reader = reader 16 Finishing 0;
  answer = answered 6;
  words =
      0 ∷ 3 ∷ 0 ∷ 6 ∷
      1 ∷ 1 ∷ 1 ∷ 1 ∷
      0 ∷ 2 ∷ 2 ∷ 3 ∷
      1 ∷ 4 ∷ 2 ∷ 1 ∷
      2 ∷ 7 ∷ 5 ∷ 1 ∷
      1 ∷ 14 ∷ 1 ∷ 1 ∷
      9 ∷ 9 ∷ [];
}
unfolding worked_text parse_tree parsed filled_with read_node read_from read_answer read_stage turn close attach snoc table_at kind_prefix kind_of is_atom outside inside escaped has_quote is_string ends_string ends_escaped tables size sizes children next_item next_in is_sound token_at in_beginning in_parsing between comment plain string escape class_of within
worked_tree_lem = refl

-- after its `z`: the inner list is read as a tree of its own, whose root it is, and the reader is behind it
pub inner_tree : parse_tree worked_text (reader 2 Parsing 1) (replicate 12 9) ≡ record {
  reader = reader 13 Parsing 1;
  answer = answered 3;
  words = 0 ∷ 2 ∷ 0 ∷ 3 ∷ 1 ∷ 4 ∷ 2 ∷ 1 ∷ 2 ∷ 7 ∷ 5 ∷ 1 ∷ [];
}
unfolding worked_text parse_tree parsed filled_with read_node read_from read_answer read_stage turn close attach snoc table_at kind_prefix kind_of is_atom outside inside escaped has_quote is_string ends_string ends_escaped tables size sizes children next_item next_in is_sound token_at in_beginning in_parsing between comment plain string escape class_of within
inner_tree = refl

-- row 12: `()` after its list start
pub row_12 : (words : List ℕ) → parse_tree (40 ∷ 41 ∷ []) (reader 1 Parsing 1) words ≡ record {
  reader = reader 2 Finishing 0;
  answer = refused (refusal 12 1 0);
  words = words;
}
unfolding parse_tree parsed read_node read_from read_answer read_stage turn close next_item next_in is_sound token_at in_beginning in_parsing between comment plain string escape class_of within
row_12 words = refl

-- request 2.7: `(` 0xE2 0x82 `(`: the reader is behind the broken character, in the list that was read before
pub after_8 : (words : List ℕ) → parse_tree (40 ∷ 0xE2 ∷ 0x82 ∷ 40 ∷ []) fresh_reader words ≡ record {
  reader = reader 3 Parsing 1;
  answer = refused (refusal 8 1 0);
  words = words;
}
unfolding parse_tree parsed read_node read_from read_answer read_stage turn close next_item next_in is_sound token_at in_beginning in_parsing between wrong class_of character by_rows forms follow within
after_8 words = refl

-- row 14: `a`, table of 3 words
pub row_14 : (a b c : ℕ) → parse_tree (97 ∷ []) fresh_reader (a ∷ b ∷ c ∷ []) ≡ record {
  reader = fresh_reader;
  answer = refused_with 14;
  words = a ∷ b ∷ c ∷ [];
}
unfolding parse_tree parsed read_node read_from read_answer read_stage turn close attach size next_item next_in is_sound token_at in_beginning in_parsing between comment plain string escape class_of within
row_14 a b c = refl

-- `(a [`: the refusal of `[`, and the reader as the call that met it left it
pub text_refusal : (words : List ℕ) → parse_tree (40 ∷ 97 ∷ 32 ∷ 91 ∷ []) fresh_reader words ≡ record {
  reader = reader 4 Parsing 1;
  answer = refused (refusal 1 3 91);
  words = words;
}
unfolding parse_tree parsed read_node read_from read_answer read_stage turn close attach snoc next_item next_in is_sound token_at in_beginning in_parsing between comment plain string escape wrong class_of character by_rows forms follow within
text_refusal words = refl

-- `a` again
pub over : (words : List ℕ) → parse_tree (97 ∷ []) (reader 1 Finishing 0) words ≡ record { reader = reader 1 Finishing 0; answer = refused_with 9; words = words }
unfolding parse_tree parsed read_node read_from read_answer next_item next_in is_sound
over words = refl

-- from a position past the text: 11, where 9 would be due too
pub past : (words : List ℕ) → parse_tree (97 ∷ []) (reader 3 Finishing 0) words ≡ record { reader = reader 3 Finishing 0; answer = refused_with 11; words = words }
unfolding parse_tree parsed read_node read_from read_answer next_item next_in is_sound
past words = refl
