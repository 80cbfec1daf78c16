-- Sizes of document 01's worked table, and commits with the right size and with others, by computation.
-- Assumes nothing.
use Rattle.std.specs.Prelude.{ℕ, ◌≡◌, refl, false, List, [], ◌∷◌, replicate}
use Rattle.sise_util.specs.Chars.{within, one_of, is_atom_chr, marks}
use Rattle.sise_util.specs.Classes.{class_of}
use Rattle.sise_util.specs.Atom.{is_atom, outside, inside, escaped, has_quote, is_string, ends_string, ends_escaped, kind_of, kind_prefix, is_atom_prefix}
use Rattle.sise_parser.specs.Reader.{part_of}
use Rattle.sise_parser.specs.Examples.{worked_text as text}
use Rattle.sise_serializer.specs.Bytes.{pasted}
use Rattle.sise_serializer.specs.Serializer.{fresh_serializer, is_sound, place, first_atom, first_list, laid, inner_as, inner, phase_after, close_as, close, last, put_in, put_atom, begin_in, begin_list, end_in, end_list, finish_in, finish_writing}
use Rattle.sise_serializer.specs.declared.serializer.Phase.TheVariants.{Writing}
use Rattle.sise_serializer.specs.declared.serializer.Serializer.{Serializer}
use Rattle.sise_serializer.specs.Calls.{step, run}
use Rattle.sise_tree.specs.Tree.{size, sizes, children, sits, atoms_hold, atoms_hold_all, table_at, table, tables}
use Rattle.sise_tree.specs.Decision.{guard, bind, row, ahead, only, decide}
use Rattle.sise_tree.specs.TableExamples.{worked as tree}
use Rattle.sise_tree_writer.specs.SerializeTree.{node_calls, row_calls, fits, Writes, refuse, written, write_node, write_tree, serialize_tree}
use Rattle.sise_tree_writer.specs.Writing.{text_calls}
use Rattle.sise_tree_writer.specs.House.{house_style, house_at}
use Rattle.sise_tree_writer.specs.Sizes.{Enquiry, adds, refuses, enquiry, commit, commit_text}

-- a buffer that was used before
abbrev used : ℕ → List ℕ
used n = replicate n 255

-- a record in a list, with two bytes, two breaks and three indents before
unfoldable in_list : Serializer
in_list = record {
  position = 2;
  lists = 1;
  broken = 1;
  line_len = 2;
  spaces = 0;
  breaks = 2;
  indents = 3;
  phase = Writing;
  list_beginning = false;
}

-- the worked table in house style at 0, in a buffer of n bytes
abbrev at_zero : ℕ → Writes
at_zero n = house_at 0 (used n) text (table tree)

-- the commit of it, where this size is handed over
abbrev committed : ℕ → Enquiry → Writes
committed n given = commit (used n) fresh_serializer (at_zero n) given

-- one atom `a`, into the list
abbrev atom_in_list : Writes
atom_in_list = serialize_tree house_style (used 8) in_list (97 ∷ []) (1 ∷ 0 ∷ 1 ∷ 1 ∷ []) 0

record Measures : Type 0 where
  -- `(z⏎  (+1⏎    "a b"⏎  )⏎  ~⏎)⏎`: 29 bytes, 6 breaks and 5 indents
  broken : enquiry fresh_serializer (at_zero 29) ≡ adds 29 6 5
  -- as many in a longer buffer
  longer : enquiry fresh_serializer (at_zero 40) ≡ adds 29 6 5
  -- and a buffer that is one byte short is refused
  short : enquiry fresh_serializer (at_zero 28) ≡ refuses 22
  -- `⏎  a` is what is added to what the list had before
  added : enquiry in_list atom_in_list ≡ adds 4 1 1

measures : Measures
unfolding text in_list serialize_tree house_at house_style text_calls write_tree write_node written fits node_calls row_calls atoms_hold atoms_hold_all is_atom_prefix sits kind_prefix kind_of has_quote is_string ends_string ends_escaped part_of decide row ahead only guard bind size sizes children table_at tables run step pasted fresh_serializer is_sound place first_atom first_list laid inner_as inner phase_after close_as close last put_in put_atom begin_in begin_list end_in end_list finish_in finish_writing is_atom outside inside escaped class_of is_atom_chr marks one_of within
measures = record { broken = refl; longer = refl; short = refl; added = refl }

record Commits : Type 0 where
  -- the size that was measured: the text is written
  right : committed 29 (adds 29 6 5) ≡ at_zero 29
  -- another number of bytes, breaks and indents exchanged, and a refusal: 23, and nothing is written
  bytes : committed 29 (adds 28 6 5) ≡ refuse 23 (used 29) fresh_serializer
  exchanged : committed 29 (adds 29 5 6) ≡ refuse 23 (used 29) fresh_serializer
  refusal : committed 29 (refuses 22) ≡ refuse 23 (used 29) fresh_serializer
  -- 22 before 23, and with the refusal that the enquiry gave
  no_room_lem : committed 28 (adds 28 6 5) ≡ refuse 22 (used 28) fresh_serializer
  no_room_given : committed 28 (refuses 22) ≡ refuse 22 (used 28) fresh_serializer
  -- row 23: `a` measured, and then `ab` committed
  row23 : commit_text house_style (used 2) (97 ∷ 98 ∷ []) (1 ∷ 0 ∷ 2 ∷ 1 ∷ []) 0 false (adds 1 0 0) ≡ refuse 23 (used 2) fresh_serializer

commits : Commits
unfolding text commit serialize_tree house_at house_style text_calls write_tree write_node written fits node_calls row_calls atoms_hold atoms_hold_all is_atom_prefix sits kind_prefix kind_of has_quote is_string ends_string ends_escaped part_of decide row ahead only guard bind size sizes children table_at tables run step pasted fresh_serializer is_sound place first_atom first_list laid inner_as inner phase_after close_as close last put_in put_atom begin_in begin_list end_in end_list finish_in finish_writing is_atom outside inside escaped class_of is_atom_chr marks one_of within
commits = record { right = refl; bytes = refl; exchanged = refl; refusal = refl; no_room_lem = refl; no_room_given = refl; row23 = refl }
