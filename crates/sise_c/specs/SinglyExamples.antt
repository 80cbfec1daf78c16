-- Calls over words by computation: `(a)` read item by item, a `(` and a refused atom written, words that mean no record, and a tree read and written inside a
-- list.
-- Assumes nothing.
use Rattle.std.specs.Prelude.{◌≡◌, refl, true, List, [], ◌∷◌, ℕ}
use Rattle.sise_util.specs.Chars.{within, one_of, is_atom_chr}
use Rattle.sise_util.specs.Classes.{class_of}
use Rattle.sise_util.specs.Atom.{is_atom, outside, inside, escaped, has_quote, is_string, ends_string, ends_escaped, kind_of, kind_prefix, is_atom_prefix}
use Rattle.sise_util.specs.Utf8.{character, by_rows, forms, follow}
use Rattle.sise_parser.specs.Lexer.{wrong, between, comment, plain, string, escape}
use Rattle.sise_parser.specs.Refusals.{refusal}
use Rattle.sise_parser.specs.Reader.{part_of, is_sound, token_at, in_beginning, in_parsing, next_in, next_item, ends_at, finish_in, finish_reading}
use Rattle.sise_serializer.specs.Bytes.{pasted}
use Rattle.sise_serializer.specs.Calls.{put_atom_call, begin_list_call, end_list_call, finish_call, largest, step, run}
use Rattle.sise_serializer.specs.Examples.{house}
use Rattle.sise_serializer.specs.Serializer as serializer
use Rattle.sise_serializer.specs.Serializer.{place, first_list, laid, inner_as, inner, phase_after, close_as, close, last, put_in, put_atom, begin_in, begin_list, end_in, end_list, finish_in as finishingIn, finish_writing}
use Rattle.sise_tree.specs.Answers.{Answer, answered, refused, refused_with}
use Rattle.sise_tree.specs.Decision.{guard, bind, row, ahead, only, decide}
use Rattle.sise_tree.specs.ParseTree.{snoc, attach, close as closing, turn, read_stage, read_answer, read_from, read_node, filled_with, parsed, parse_tree}
use Rattle.sise_tree.specs.Tree.{size, sizes, children, sits, atoms_hold, atoms_hold_all, table_at, tables}
use Rattle.sise_tree_writer.specs.SerializeTree.{node_calls, row_calls, fits, written as writes, write_node, write_tree, serialize_tree}
use Rattle.sise_c.specs.Records.{reader_of, serializer_of}
use Rattle.sise_c.specs.Singly.{Stands, next_number, next_values, next_by, next_of, finish_by, finish_of, Leaves, call_by, call_on, no_record, TreeStands, next_tree_by, next_tree_of, put_tree_by, put_tree_of}

-- `(a)`
text : List ℕ
text = 40 ∷ 97 ∷ 41 ∷ []

-- the number, the item's words and the record's, one after the other
shown : Stands → List (List ℕ)
shown d = (next_number d.answer ∷ []) ∷ next_values d.answer ∷ d.words ∷ []

list_start_lem : shown (next_of text (0 ∷ 0 ∷ 0 ∷ [])) ≡ (0 ∷ []) ∷ (1 ∷ 0 ∷ 0 ∷ []) ∷ (1 ∷ 1 ∷ 1 ∷ []) ∷ []
unfolding text shown reader_of next_by next_of next_item next_in is_sound token_at in_beginning in_parsing between comment plain string escape wrong class_of character by_rows forms follow within
list_start_lem = refl

atom : shown (next_of text (1 ∷ 1 ∷ 1 ∷ [])) ≡ (0 ∷ []) ∷ (0 ∷ 1 ∷ 1 ∷ []) ∷ (2 ∷ 1 ∷ 1 ∷ []) ∷ []
unfolding text shown reader_of next_by next_of next_item next_in is_sound token_at in_beginning in_parsing between comment plain string escape wrong class_of character by_rows forms follow within
atom = refl

list_end_lem : shown (next_of text (2 ∷ 1 ∷ 1 ∷ [])) ≡ (0 ∷ []) ∷ (2 ∷ 2 ∷ 0 ∷ []) ∷ (3 ∷ 2 ∷ 0 ∷ []) ∷ []
unfolding text shown reader_of next_by next_of next_item next_in is_sound token_at in_beginning in_parsing between comment plain string escape wrong class_of character by_rows forms follow within
list_end_lem = refl

-- the last item is read, and the text ends; one item earlier finish is 10
ends : finish_of text (3 ∷ 2 ∷ 0 ∷ []) ∷ finish_of text (2 ∷ 1 ∷ 1 ∷ []) ∷ [] ≡ answered 0 ∷ refused_with 10 ∷ []
unfolding text reader_of finish_by finish_of finish_reading finish_in is_sound token_at ends_at between comment plain string escape wrong class_of character by_rows forms follow within
ends = refl

-- a `[` is refused with 1, its place and its code point, and passed; a phase 3 is none; and a position past the end is unsound
refusals : shown (next_of (91 ∷ []) (0 ∷ 0 ∷ 0 ∷ [])) ∷ shown (next_of text (0 ∷ 3 ∷ 0 ∷ [])) ∷ shown (next_of text (4 ∷ 0 ∷ 0 ∷ [])) ∷ []
    ≡ ((1 ∷ []) ∷ (0 ∷ 0 ∷ 91 ∷ []) ∷ (1 ∷ 0 ∷ 0 ∷ []) ∷ [])
    ∷ ((11 ∷ []) ∷ (0 ∷ 0 ∷ 0 ∷ []) ∷ (0 ∷ 3 ∷ 0 ∷ []) ∷ [])
    ∷ ((11 ∷ []) ∷ (0 ∷ 0 ∷ 0 ∷ []) ∷ (4 ∷ 0 ∷ 0 ∷ []) ∷ [])
    ∷ []
unfolding text shown reader_of next_by next_of next_item next_in is_sound token_at in_beginning in_parsing between comment plain string escape wrong class_of character by_rows forms follow within
refusals = refl

-- a buffer of 3 bytes, and with `()` in it
room : List ℕ
room = 9 ∷ 9 ∷ 9 ∷ []

written : List ℕ
written = 40 ∷ 41 ∷ 9 ∷ []

leave : Answer → List ℕ → List ℕ → Leaves
leave a ws b = record { answer = a; words = ws; buffer = b }

-- `(`, which begins a list; `ab` has no room on a new line; `)`; and finish with a line break, which answers the text's end
begins : call_on (begin_list_call 0) house (0 ∷ 0 ∷ 0 ∷ 0 ∷ 0 ∷ 0 ∷ 0 ∷ 0 ∷ 0 ∷ []) room ≡ leave (answered 0) (1 ∷ 1 ∷ 1 ∷ 0 ∷ 1 ∷ 1 ∷ 0 ∷ 0 ∷ 0 ∷ []) (40 ∷ 9 ∷ 9 ∷ [])
unfolding room leave house serializer_of call_by call_on step serializer.is_sound place first_list begin_in begin_list pasted
begins = refl

no_room : call_on (put_atom_call (97 ∷ 98 ∷ []) 0) house (1 ∷ 1 ∷ 1 ∷ 0 ∷ 1 ∷ 1 ∷ 0 ∷ 0 ∷ 0 ∷ []) (40 ∷ 9 ∷ 9 ∷ [])
    ≡ leave (refused_with 22) (1 ∷ 1 ∷ 1 ∷ 0 ∷ 1 ∷ 1 ∷ 0 ∷ 0 ∷ 0 ∷ []) (40 ∷ 9 ∷ 9 ∷ [])
unfolding leave house serializer_of call_by call_on step serializer.is_sound place laid inner_as inner put_in put_atom pasted is_atom outside inside escaped class_of is_atom_chr one_of within
no_room = refl

closes : call_on end_list_call house (1 ∷ 1 ∷ 1 ∷ 0 ∷ 1 ∷ 1 ∷ 0 ∷ 0 ∷ 0 ∷ []) (40 ∷ 9 ∷ 9 ∷ []) ≡ leave (answered 1) (2 ∷ 2 ∷ 0 ∷ 0 ∷ 0 ∷ 2 ∷ 0 ∷ 0 ∷ 0 ∷ []) written
unfolding written leave house serializer_of call_by call_on step serializer.is_sound place phase_after close_as close end_in end_list pasted
closes = refl

finishes : call_on (finish_call true) house (2 ∷ 2 ∷ 0 ∷ 0 ∷ 0 ∷ 2 ∷ 0 ∷ 0 ∷ 0 ∷ []) written
    ≡ leave (answered 3) (3 ∷ 3 ∷ 0 ∷ 0 ∷ 0 ∷ 2 ∷ 0 ∷ 1 ∷ 0 ∷ []) (40 ∷ 41 ∷ 10 ∷ [])
unfolding written leave house serializer_of call_by call_on step serializer.is_sound place last finishingIn finish_writing pasted
finishes = refl

-- a phase 4 and a flag 2 are none; and lists that are open before the beginning are unsound
no_records :
    (call_on end_list_call house (0 ∷ 4 ∷ 0 ∷ 0 ∷ 0 ∷ 0 ∷ 0 ∷ 0 ∷ 0 ∷ []) room).answer ∷
    (call_on end_list_call house (0 ∷ 0 ∷ 0 ∷ 0 ∷ 2 ∷ 0 ∷ 0 ∷ 0 ∷ 0 ∷ []) room).answer ∷
    (call_on end_list_call house (1 ∷ 0 ∷ 1 ∷ 0 ∷ 0 ∷ 0 ∷ 0 ∷ 0 ∷ 0 ∷ []) room).answer ∷
    (call_on end_list_call house (0 ∷ 0 ∷ 0 ∷ 0 ∷ 1 ∷ 0 ∷ 0 ∷ 0 ∷ 0 ∷ []) room).answer ∷
    [] ≡ refused_with 11 ∷ refused_with 11 ∷ refused_with 11 ∷ refused_with 18 ∷ []
unfolding room house serializer_of call_by call_on step serializer.is_sound end_in end_list
no_records = refl

-- ---- trees

read : Answer → List ℕ → List ℕ → TreeStands
read a ws table = record { answer = a; words = ws; table = table }

-- `(a (b))`
nested : List ℕ
nested = 40 ∷ 97 ∷ 32 ∷ 40 ∷ 98 ∷ 41 ∷ 41 ∷ []

-- a table that was used before
used : List ℕ
used = 9 ∷ 9 ∷ 9 ∷ 9 ∷ 9 ∷ 9 ∷ 9 ∷ 9 ∷ 9 ∷ []

-- after `(a` the list `(b)` is read, two nodes, and the reader stands behind it; where no node is left the `)` is refused with 12, and passed
reads_lem : next_tree_of nested (2 ∷ 1 ∷ 1 ∷ []) used ∷ next_tree_of nested (6 ∷ 1 ∷ 1 ∷ []) used ∷ []
    ≡ read (answered 2) (6 ∷ 1 ∷ 1 ∷ []) (0 ∷ 1 ∷ 0 ∷ 2 ∷ 1 ∷ 4 ∷ 1 ∷ 1 ∷ 9 ∷ [])
    ∷ read (refused (refusal 12 6 0)) (7 ∷ 2 ∷ 0 ∷ []) used
    ∷ []
unfolding nested used read reader_of next_tree_by next_tree_of parse_tree parsed filled_with read_node read_from read_answer read_stage turn closing attach snoc table_at tables size sizes children kind_prefix kind_of is_atom outside inside escaped has_quote is_string ends_string ends_escaped next_item next_in is_sound token_at in_beginning in_parsing between comment plain string escape class_of within
reads_lem = refl

-- `(a [`: the record is the one that the refused item left; with a table of 7 words it is the one that was given, and so is one with a phase 3 or a position past the end
not_read_lem :
    next_tree_of (40 ∷ 97 ∷ 32 ∷ 91 ∷ []) (0 ∷ 0 ∷ 0 ∷ []) used ∷
    next_tree_of nested (2 ∷ 1 ∷ 1 ∷ []) (9 ∷ 9 ∷ 9 ∷ 9 ∷ 9 ∷ 9 ∷ 9 ∷ []) ∷
    next_tree_of nested (2 ∷ 3 ∷ 1 ∷ []) used ∷
    next_tree_of nested (8 ∷ 1 ∷ 1 ∷ []) used ∷
    next_tree_of nested (7 ∷ 2 ∷ 0 ∷ []) used ∷
    []
    ≡ read (refused (refusal 1 3 91)) (4 ∷ 1 ∷ 1 ∷ []) used
    ∷ read (refused_with 14) (2 ∷ 1 ∷ 1 ∷ []) (9 ∷ 9 ∷ 9 ∷ 9 ∷ 9 ∷ 9 ∷ 9 ∷ [])
    ∷ read (refused_with 11) (2 ∷ 3 ∷ 1 ∷ []) used
    ∷ read (refused_with 11) (8 ∷ 1 ∷ 1 ∷ []) used
    ∷ read (refused_with 9) (7 ∷ 2 ∷ 0 ∷ []) used
    ∷ []
unfolding nested used read reader_of no_record next_tree_by next_tree_of parse_tree parsed filled_with read_node read_from read_answer read_stage turn closing attach snoc size sizes next_item next_in is_sound token_at in_beginning in_parsing between comment plain string escape wrong class_of character by_rows forms follow within
not_read_lem = refl

-- a buffer with `(a` in it, and room for six bytes
begun : List ℕ
begun = 40 ∷ 97 ∷ 9 ∷ 9 ∷ 9 ∷ 9 ∷ 9 ∷ 9 ∷ []

-- and the record behind it
behind : List ℕ
behind = 2 ∷ 1 ∷ 1 ∷ 0 ∷ 0 ∷ 2 ∷ 0 ∷ 0 ∷ 0 ∷ []

-- the table of the list `(b)`, over `b`
listed : List ℕ
listed = 0 ∷ 1 ∷ 0 ∷ 2 ∷ 1 ∷ 0 ∷ 1 ∷ 1 ∷ []

-- behind `(a` the tree goes on the same line, `(a (b)`, or at the threshold 2 on a new one; the answer is the offset of its `(`
trees_lem : put_tree_of house behind begun (98 ∷ []) listed largest ∷ put_tree_of house behind begun (98 ∷ []) listed 2 ∷ []
    ≡ leave (answered 3) (6 ∷ 1 ∷ 1 ∷ 0 ∷ 0 ∷ 6 ∷ 1 ∷ 0 ∷ 0 ∷ []) (40 ∷ 97 ∷ 32 ∷ 40 ∷ 98 ∷ 41 ∷ 9 ∷ 9 ∷ [])
    ∷ leave (answered 5) (8 ∷ 1 ∷ 1 ∷ 1 ∷ 0 ∷ 5 ∷ 0 ∷ 1 ∷ 1 ∷ []) (40 ∷ 97 ∷ 10 ∷ 32 ∷ 32 ∷ 40 ∷ 98 ∷ 41 ∷ [])
    ∷ []
unfolding begun behind listed leave house serializer_of put_tree_by put_tree_of serialize_tree write_tree write_node writes fits node_calls row_calls atoms_hold atoms_hold_all is_atom_prefix sits kind_prefix kind_of has_quote is_string ends_string ends_escaped part_of decide row ahead only guard bind size sizes children run step pasted serializer.is_sound place laid inner_as inner phase_after close_as close put_in put_atom begin_in begin_list end_in end_list is_atom outside inside escaped class_of is_atom_chr one_of within
trees_lem = refl

-- nothing is written where one byte is lacking, where a space is no atom, where the text is whole, and where a phase 4 is none
refused_trees_lem :
    put_tree_of house behind (40 ∷ 97 ∷ 9 ∷ 9 ∷ 9 ∷ []) (98 ∷ []) listed largest ∷
    put_tree_of house behind begun (32 ∷ []) listed largest ∷
    put_tree_of house (2 ∷ 2 ∷ 0 ∷ 0 ∷ 0 ∷ 2 ∷ 0 ∷ 0 ∷ 0 ∷ []) written (98 ∷ []) listed largest ∷
    put_tree_of house (2 ∷ 4 ∷ 0 ∷ 0 ∷ 0 ∷ 2 ∷ 0 ∷ 0 ∷ 0 ∷ []) written (98 ∷ []) listed largest ∷
    []
    ≡ leave (refused_with 22) behind (40 ∷ 97 ∷ 9 ∷ 9 ∷ 9 ∷ [])
    ∷ leave (refused_with 17) behind begun
    ∷ leave (refused_with 19) (2 ∷ 2 ∷ 0 ∷ 0 ∷ 0 ∷ 2 ∷ 0 ∷ 0 ∷ 0 ∷ []) written
    ∷ leave (refused_with 11) (2 ∷ 4 ∷ 0 ∷ 0 ∷ 0 ∷ 2 ∷ 0 ∷ 0 ∷ 0 ∷ []) written
    ∷ []
unfolding written begun behind listed leave house serializer_of no_record put_tree_by put_tree_of serialize_tree write_tree write_node writes fits node_calls row_calls atoms_hold atoms_hold_all is_atom_prefix sits kind_prefix kind_of has_quote is_string ends_string ends_escaped part_of decide row ahead only guard bind size sizes children run step pasted serializer.is_sound place laid inner_as inner phase_after close_as close put_in put_atom begin_in begin_list end_in end_list is_atom outside inside escaped class_of is_atom_chr one_of within
refused_trees_lem = refl
