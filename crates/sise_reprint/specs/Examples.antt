-- Reprints by computation: document 01's worked text; one with comments, CRLF and odd spacing, which has the same tree; one with another atom; and refusals.
-- Assumes nothing.
use Rattle.std.specs.Prelude.{Ok, ℕ, ◌≡◌, refl, false, List, [], ◌∷◌, ◌++◌, replicate}
use Rattle.sise_util.specs.Chars.{within, one_of, is_atom_chr, marks}
use Rattle.sise_util.specs.Classes.{class_of}
use Rattle.sise_util.specs.Atom.{is_atom, outside, inside, escaped, has_quote, is_string, ends_string, ends_escaped, kind_of, kind_prefix, is_atom_prefix}
use Rattle.sise_parser.specs.Refusals.{refusal}
use Rattle.sise_parser.specs.Lexer.{wrong, between, comment, plain, string, escape}
use Rattle.sise_parser.specs.Reader.{reader, is_sound, token_at, in_beginning, in_parsing, next_in, next_item, ends_at, finish_in, finish_reading, part_of}
use Rattle.sise_parser.specs.Examples.{worked_text}
use Rattle.sise_parser.specs.declared.reader.Phase.TheVariants.{Finishing}
use Rattle.sise_serializer.specs.Bytes.{pasted}
use Rattle.sise_serializer.specs.Serializer as writer
use Rattle.sise_serializer.specs.Serializer.{fresh_serializer, place, first_atom, first_list, laid, inner_as, inner, phase_after, close_as, last, put_in, put_atom, begin_in, begin_list, end_in, end_list, finish_writing}
use Rattle.sise_serializer.specs.Calls.{step, run}
use Rattle.sise_serializer.specs.declared.serializer.Phase.TheVariants.{Done}
use Rattle.sise_serializer.specs.declared.serializer.Serializer.{Serializer}
use Rattle.sise_tree.specs.Tree.{atom, list, empty, ◌then◌, size, sizes, children, sits, atoms_hold, atoms_hold_all, table_at, tables}
use Rattle.sise_tree.specs.Decision.{guard, bind, row, ahead, only, decide}
use Rattle.sise_tree.specs.ParseTree.{snoc, attach, close, turn, read_stage, read_answer, read_from, read_node, filled_with}
use Rattle.sise_tree.specs.ParseText.{placed_in, parse_text}
use Rattle.sise_tree_writer.specs.SerializeTree.{node_calls, row_calls, fits, written, write_node, write_tree}
use Rattle.sise_tree_writer.specs.Writing.{text_calls}
use Rattle.sise_tree_writer.specs.House.{house_style, house_at}
use Rattle.sise_tree_writer.specs.Alike.{Tree, leaf, branch, nothing, ◌also◌, tree_of, trees_of, ReadsAs}
use Rattle.sise_reprint.specs.Reprint.{reprinted, refused_by, reprint, Calls}

-- words and bytes that were used before
abbrev pub used : ℕ → List ℕ
used n = replicate n 255

-- `;l⏎( z→(+1⏎ "a b" );g⏎~ )⏎;e`, → being a tab: the tree of `(z (+1 "a b") ~)`, with three comments; ⏎ is CR LF but behind the `g`, where it is LF
unfoldable pub odd_text : List ℕ
odd_text = 59 ∷ 108 ∷ 13 ∷ 10 ∷ 40 ∷ 32 ∷ 122 ∷ 9 ∷ 40 ∷ 43 ∷ 49 ∷ 13 ∷ 10 ∷ 32 ∷ 34 ∷ 97 ∷ 32 ∷ 98 ∷ 34 ∷ 32 ∷ 41 ∷ 59 ∷ 103 ∷ 10 ∷ 126 ∷ 32 ∷ 41 ∷ 13 ∷ 10 ∷ 59 ∷ 101 ∷ []

-- `(z (+1 "a c") ~)`: another atom
unfoldable pub other_text : List ℕ
other_text = 40 ∷ 122 ∷ 32 ∷ 40 ∷ 43 ∷ 49 ∷ 32 ∷ 34 ∷ 97 ∷ 32 ∷ 99 ∷ 34 ∷ 41 ∷ 32 ∷ 126 ∷ 41 ∷ []

-- `(z⏎  (+1⏎    "a b"⏎  )⏎  ~⏎)⏎`, ⏎ being LF: the first two at the threshold 0
unfoldable pub broken : List ℕ
broken = 40 ∷ 122 ∷ 10 ∷ 32 ∷ 32 ∷ 40 ∷ 43 ∷ 49 ∷ 10 ∷ 32 ∷ 32 ∷ 32 ∷ 32 ∷ 34 ∷ 97 ∷ 32 ∷ 98 ∷ 34 ∷ 10 ∷ 32 ∷ 32 ∷ 41 ∷ 10 ∷ 32 ∷ 32 ∷ 126 ∷ 10 ∷ 41 ∷ 10 ∷ []

-- one line, with its break
abbrev pub line : List ℕ → List ℕ
line text = text ++ 10 ∷ []

pub record Reprints : Type 0 where
  pub worked : reprint 72 worked_text (used 24) (used 17) ≡ reprinted 6 (line worked_text)
  pub worked_at0 : reprint 0 worked_text (used 24) (used 29) ≡ reprinted 6 broken
  pub odd : reprint 72 odd_text (used 27) (used 20) ≡ reprinted 6 (line worked_text)
  pub odd_at0 : reprint 0 odd_text (used 27) (used 30) ≡ reprinted 6 broken
  pub other : reprint 72 other_text (used 24) (used 17) ≡ reprinted 6 (line other_text)
  -- reprinted again
  pub again : reprint 72 (line worked_text) (used 24) (used 17) ≡ reprinted 6 (line worked_text)
  pub again_at0 : reprint 0 broken (used 24) (used 29) ≡ reprinted 6 broken
  -- `a b` is no one node; a table of five nodes; a buffer one byte short
  pub two : reprint 72 (97 ∷ 32 ∷ 98 ∷ []) (used 24) (used 17) ≡ refused_by (refusal 7 2 0)
  pub small_table : reprint 72 worked_text (used 23) (used 17) ≡ refused_by (refusal 14 0 0)
  pub small_buffer : reprint 72 worked_text (used 24) (used 16) ≡ refused_by (refusal 22 0 0)

pub reprints : Reprints
unfolding worked_text odd_text other_text broken reprint parse_text placed_in read_node read_from read_answer read_stage turn close attach snoc filled_with finish_reading finish_in ends_at next_item next_in is_sound token_at in_beginning in_parsing between comment plain string escape wrong house_at house_style text_calls write_tree write_node written fits node_calls row_calls atoms_hold atoms_hold_all is_atom_prefix sits kind_prefix kind_of has_quote is_string ends_string ends_escaped part_of decide row ahead only guard bind size sizes children table_at tables run step pasted fresh_serializer writer.is_sound place first_atom first_list laid inner_as inner phase_after close_as writer.close last put_in put_atom begin_in begin_list end_in end_list writer.finish_in finish_writing is_atom outside inside escaped class_of is_atom_chr marks one_of within
reprints = record {
  worked = refl;
  worked_at0 = refl;
  odd = refl;
  odd_at0 = refl;
  other = refl;
  again = refl;
  again_at0 = refl;
  two = refl;
  small_table = refl;
  small_buffer = refl;
}

-- ---- their trees

-- of `(z (+1 s) ~)`
abbrev tree_with : List ℕ → Tree
tree_with s = branch (leaf (122 ∷ []) also branch (leaf (43 ∷ 49 ∷ []) also leaf s also nothing) also leaf (126 ∷ []) also nothing)

-- s is `"a b"`, and `"a c"`
unfoldable pub worked_tree : Tree
worked_tree = tree_with (34 ∷ 97 ∷ 32 ∷ 98 ∷ 34 ∷ [])

unfoldable pub other_tree : Tree
other_tree = tree_with (34 ∷ 97 ∷ 32 ∷ 99 ∷ 34 ∷ [])

pub worked_reads : ReadsAs worked_text worked_tree
unfolding worked_tree other_tree tree_of trees_of part_of worked_text odd_text other_text read_node read_from read_answer read_stage turn close attach snoc finish_reading finish_in ends_at next_item next_in is_sound token_at in_beginning in_parsing between comment plain string escape wrong kind_prefix kind_of is_atom outside inside escaped has_quote is_string ends_string ends_escaped class_of is_atom_chr marks one_of within
worked_reads = record { node = list (atom 1 1 1 then (list (atom 1 4 2 then (atom 2 7 5 then empty)) then (atom 1 14 1 then empty))); reader = reader 16 Finishing 0; reads = refl; same = refl; ended = refl }

pub odd_reads : ReadsAs odd_text worked_tree
unfolding worked_tree other_tree tree_of trees_of part_of worked_text odd_text other_text read_node read_from read_answer read_stage turn close attach snoc finish_reading finish_in ends_at next_item next_in is_sound token_at in_beginning in_parsing between comment plain string escape wrong kind_prefix kind_of is_atom outside inside escaped has_quote is_string ends_string ends_escaped class_of is_atom_chr marks one_of within
odd_reads = record { node = list (atom 1 6 1 then (list (atom 1 9 2 then (atom 2 14 5 then empty)) then (atom 1 24 1 then empty))); reader = reader 27 Finishing 0; reads = refl; same = refl; ended = refl }

pub other_reads : ReadsAs other_text other_tree
unfolding worked_tree other_tree tree_of trees_of part_of worked_text odd_text other_text read_node read_from read_answer read_stage turn close attach snoc finish_reading finish_in ends_at next_item next_in is_sound token_at in_beginning in_parsing between comment plain string escape wrong kind_prefix kind_of is_atom outside inside escaped has_quote is_string ends_string ends_escaped class_of is_atom_chr marks one_of within
other_reads = record { node = list (atom 1 1 1 then (list (atom 1 4 2 then (atom 2 7 5 then empty)) then (atom 1 14 1 then empty))); reader = reader 16 Finishing 0; reads = refl; same = refl; ended = refl }

-- ---- the two calls made on `a`, with the record that the second returns

abbrev atom_record : Serializer
atom_record = record {
  position = 2;
  lists = 0;
  broken = 0;
  line_len = 0;
  spaces = 0;
  breaks = 1;
  indents = 0;
  phase = Done;
  list_beginning = false;
}

pub calls_made : Calls 72 (97 ∷ []) (used 5) (used 3) (Ok 1) (1 ∷ 0 ∷ 1 ∷ 1 ∷ 255 ∷ []) (record { serializer = atom_record; answer = Ok 0 }) (97 ∷ 10 ∷ 255 ∷ [])
unfolding parse_text placed_in read_node read_from read_answer read_stage turn close attach snoc filled_with finish_reading finish_in ends_at next_item next_in is_sound token_at in_beginning in_parsing between comment plain string escape wrong house_at house_style text_calls write_tree write_node written fits node_calls row_calls atoms_hold atoms_hold_all is_atom_prefix sits kind_prefix kind_of has_quote is_string ends_string ends_escaped part_of decide row ahead only guard bind size sizes children table_at tables run step pasted fresh_serializer writer.is_sound place first_atom first_list laid inner_as inner phase_after close_as writer.close last put_in put_atom begin_in begin_list end_in end_list writer.finish_in finish_writing is_atom outside inside escaped class_of is_atom_chr marks one_of within
calls_made = record { parse = record { answer = refl; words = refl }; write = record { serializer = refl; answer = refl; buffer = refl } }
