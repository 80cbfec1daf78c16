-- What parse_text answers and writes: a whole text, which is a node and the end (document 01, "Trees" and "Refusals").
-- Assumes nothing.
use Rattle.std.specs.Prelude.{ℕ, ◌/◌, ◌≡◌, Result, cond, List, leb, ltb, length}
use Rattle.sise_parser.specs.Reader.{fresh_reader, Ending, ended, not_ended, finish_reading}
use Rattle.sise_tree.specs.Tree.{Node, size}
use Rattle.sise_tree.specs.Answers.{Answer, answered, refused, refused_with, parsed_as}
use Rattle.sise_tree.specs.ParseTree.{longest, ReadNode, got, stopped, read_node, filled_with}
use Rattle.sise_tree.specs.declared.parse.TreeError.{TreeError}

-- what parse_text leaves: its answer, and the table's words
pub record ParsesText : Type 0 where
  pub answer : Answer
  pub words : List ℕ

abbrev pub parses : Answer → List ℕ → ParsesText
parses a words = record { answer = a; words = words }

-- 14: "more nodes than the table's length / 4, rounded down"
unfoldable pub placed_in : List ℕ → Node → ParsesText
placed_in words n = cond (leb (size n) (length words / 4)) (parses (answered (size n)) (filled_with n words)) (parses (refused_with 14) words)

-- what the reader's finish says of the rest of the text, behind the node
abbrev pub ended_with : List ℕ → Node → Ending → ParsesText
ended_with words n ended = placed_in words n
ended_with words n (not_ended e) = parses (refused e) words

abbrev pub text_read : List ℕ → List ℕ → ReadNode → ParsesText
text_read text words (stopped e q) = parses (refused e) words
text_read text words (got n q) = ended_with words n (finish_reading text q)

-- parse_tree's order from a fresh reader, with finish's refusals before 14: 13, the node's first text refusal, 7 or a text refusal behind it, 14
unfoldable pub parse_text : List ℕ → List ℕ → ParsesText
parse_text text words = cond (ltb longest (length text)) (parses (refused_with 13) words) (text_read text words (read_node text fresh_reader))

-- what a call promises, that ended with the result r and the words `now`: it does as d says
pub record DoesParseText (d : ParsesText) (r : Result ℕ TreeError) (now : List ℕ) : Type 0 where
  pub answer : parsed_as r ≡ d.answer
  pub words : now ≡ d.words
