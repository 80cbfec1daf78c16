-- The examples of document 01's table of refusals that are proved, rows 1 to 10 and 16 to 19, as one table.
-- Assumes nothing.
use Rattle.std.specs.Prelude.{◌≡◌, refl, List, [], ◌∷◌, ◌++◌, map, replicate}
use Rattle.sise_util.specs.Chars.{is_atom_chr, within}
use Rattle.sise_util.specs.Atom.{is_atom, outside, has_quote, kind_of, kind_prefix}
use Rattle.sise_util.specs.Classes.{class_of}
use Rattle.sise_parser.specs.Refusals.{Refusal, refusal}
use Rattle.sise_parser.specs.Lexer.{wrong, between, comment, plain, string, escape}
use Rattle.sise_parser.specs.Reader.{fresh_reader, is_sound, token_at, in_beginning, in_parsing, next_in, next_item}
use Rattle.sise_parser.specs.Examples.{rows1to10, rows_1_to_10}
use Rattle.sise_serializer.specs.Serializer as writer
use Rattle.sise_serializer.specs.Examples.{rows17to19, rows_17_to_19}
use Rattle.sise_tree.specs.Tree.{sits, size, table_at}
use Rattle.sise_tree.specs.Decision.{guard, bind, ahead, row, only, decide}
use Rattle.sise_tree.specs.ParseTree.{attach, turn, read_stage, read_answer, read_from, read_node, filled_with, parsed, parse_tree}
use Rattle.sise_tree.specs.IndexPath.{node_at, index_path}
use Rattle.sise_tree.specs.Answers.{Answer, answered, refused, refused_with}

-- an answer's refusal; 0 if it is none
abbrev refusal_in : Answer → Refusal
refusal_in (answered n) = refusal 0 0 0
refusal_in (refused e) = e

-- a refusal of the writer has no place
abbrev writers_refusal : writer.Answer → Refusal
writers_refusal (writer.Answer.accepted o) = refusal 0 0 0
writers_refusal (writer.Answer.refused n) = refusal n 0 0

-- row 16: `a`, path 0
unfoldable pub row16 : Answer
row16 = index_path (parse_tree (97 ∷ []) fresh_reader (replicate 4 9)).words (97 ∷ []) (0 ∷ [])

pub row_16 : row16 ≡ refused_with 16
unfolding row16 sits kind_prefix kind_of is_atom outside has_quote index_path node_at decide row ahead only guard bind parse_tree parsed read_node read_from read_answer read_stage turn attach filled_with size table_at next_item next_in is_sound token_at in_beginning in_parsing between comment plain string escape wrong class_of is_atom_chr within
row_16 = refl

unfoldable pub rows : List Refusal
rows = rows1to10 ++ refusal_in row16 ∷ map writers_refusal rows17to19

pub proved_rows : rows ≡
    refusal 1 0 91 ∷
    refusal 2 1 9 ∷
    refusal 3 1 127 ∷
    refusal 4 2 0 ∷
    refusal 5 0 0 ∷
    refusal 6 0 0 ∷
    refusal 7 2 0 ∷
    refusal 8 0 0 ∷
    refusal 9 0 0 ∷
    refusal 10 0 0 ∷
    refusal 16 0 0 ∷
    refusal 17 0 0 ∷
    refusal 18 0 0 ∷
    refusal 19 0 0 ∷
    []
unfolding rows
proved_rows = rw (rows_1_to_10, row_16, rows_17_to_19)
