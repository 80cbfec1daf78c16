-- Document 01's worked table written at both ends of the thresholds, and a tree call's refusals in their order, by computation.
-- Assumes nothing.
use Rattle.std.specs.Prelude.{ℕ, ◌+◌, ◌≡◌, refl, true, List, [], ◌∷◌, ◌++◌, take, replicate}
use Rattle.sise_util.specs.Chars.{within, one_of, is_atom_chr, marks}
use Rattle.sise_util.specs.Classes.{class_of}
use Rattle.sise_util.specs.Atom.{is_atom, outside, inside, escaped, has_quote, is_string, ends_string, ends_escaped, kind_of, kind_prefix, is_atom_prefix}
use Rattle.sise_parser.specs.Reader.{part_of}
use Rattle.sise_parser.specs.Examples.{worked_text as text}
use Rattle.sise_serializer.specs.Bytes.{pasted}
use Rattle.sise_serializer.specs.Serializer.{fresh_serializer, is_sound, place, first_atom, first_list, laid, inner_as, inner, phase_after, close_as, close, last, put_in, put_atom, begin_in, begin_list, end_in, end_list, finish_in, finish_writing}
use Rattle.sise_serializer.specs.declared.serializer.Phase.TheVariants.{Writing}
use Rattle.sise_serializer.specs.declared.serializer.Serializer.{Serializer}
use Rattle.sise_serializer.specs.Calls.{largest, step, run}
use Rattle.sise_tree.specs.Tree.{atom, list, empty, ◌then◌, size, sizes, children, sits, atoms_hold, atoms_hold_all, table_at, table, tables}
use Rattle.sise_tree.specs.Decision.{guard, bind, row, ahead, only, decide}
use Rattle.sise_tree.specs.TableExamples.{worked as tree}
use Rattle.sise_tree.specs.Answers.{Answer, answered, refused_with}
use Rattle.sise_tree_writer.specs.SerializeTree.{node_calls, row_calls, fits, Writes, written, write_node, write_tree, serialize_tree}
use Rattle.sise_tree_writer.specs.Writing.{text_calls}
use Rattle.sise_tree_writer.specs.House.{house_style, house_at, house}

-- a buffer that was used before
abbrev used : ℕ → List ℕ
used n = replicate n 255

-- a record inside 200 lists, just begun
unfoldable deep : Serializer
deep = record {
  position = 200;
  lists = 200;
  broken = 0;
  line_len = 200;
  spaces = 0;
  breaks = 0;
  indents = 0;
  phase = Writing;
  list_beginning = true;
}

-- a record after its one atom, `a`
unfoldable finished : Serializer
finished = (first_atom fresh_serializer (97 ∷ [])).after

-- what stands in the buffer up to the position, and the answer
record Shown : Type 0 where
  text : List ℕ
  answer : Answer

unfoldable shown : Writes → Shown
shown w = record { text = take w.serializer.position w.buffer; answer = w.answer }

-- `(` and an atom of n letters `a`
abbrev lead : ℕ → List ℕ
lead n = 40 ∷ replicate n 97

-- `(a..a b c)`
abbrev long : ℕ → List ℕ
long n = lead n ++ 32 ∷ 98 ∷ 32 ∷ 99 ∷ 41 ∷ []

abbrev long_table : ℕ → List ℕ
long_table n = table (list (atom 1 1 n then atom 1 (n + 2) 1 then atom 1 (n + 4) 1 then empty))

record Written : Type 0 where
  -- at the largest threshold the text is the one that it was read from
  unbroken : shown (serialize_tree house_style (used 20) fresh_serializer text (table tree) largest) ≡ record { text = text; answer = answered 0 }
  -- house style at 0, `(z⏎  (+1⏎    "a b"⏎  )⏎  ~⏎)⏎`: 29 bytes
  at_zero : shown (house_at 0 (used 29) text (table tree)) ≡ record {
    text =
        40 ∷ 122 ∷ 10 ∷ 32 ∷ 32 ∷ 40 ∷ 43 ∷ 49 ∷ 10 ∷ 32 ∷ 32 ∷ 32 ∷ 32 ∷ 34 ∷ 97 ∷ 32 ∷ 98 ∷ 34 ∷ 10 ∷ 32 ∷ 32 ∷ 41 ∷ 10 ∷ 32 ∷ 32 ∷ 126 ∷ 10 ∷ 41 ∷ 10 ∷ [];
    answer = answered 0;
  }
  -- house style, `(z (+1 "a b") ~)⏎`: one line of 17 bytes with its break
  in_house : shown (house (used 17) text (table tree)) ≡ record { text = text ++ 10 ∷ []; answer = answered 0 }
  -- `a⏎`
  atom_in_house : shown (house (used 2) (97 ∷ []) (1 ∷ 0 ∷ 1 ∷ 1 ∷ [])) ≡ record { text = 97 ∷ 10 ∷ []; answer = answered 0 }
  -- where the line has 71 bytes `b` stays on it, and `c` finds 73: `(a..a b⏎  c⏎)⏎`
  at71 : shown (house (used 80) (long 70) (long_table 70)) ≡ record { text = lead 70 ++ 32 ∷ 98 ∷ 10 ∷ 32 ∷ 32 ∷ 99 ∷ 10 ∷ 41 ∷ 10 ∷ []; answer = answered 0 }
  -- where it has 72 bytes `b` goes on the next: `(a..a⏎  b c⏎)⏎`
  at72 : shown (house (used 81) (long 71) (long_table 71)) ≡ record { text = lead 71 ++ 10 ∷ 32 ∷ 32 ∷ 98 ∷ 32 ∷ 99 ∷ 10 ∷ 41 ∷ 10 ∷ []; answer = answered 0 }

written_so : Written
unfolding text shown serialize_tree house_at house_style text_calls write_tree write_node written fits node_calls row_calls atoms_hold atoms_hold_all is_atom_prefix sits kind_prefix kind_of has_quote is_string ends_string ends_escaped part_of decide row ahead only guard bind size sizes children table_at tables run step pasted fresh_serializer is_sound place first_atom first_list laid inner_as inner phase_after close_as close last put_in put_atom begin_in begin_list end_in end_list finish_in finish_writing is_atom outside inside escaped class_of is_atom_chr marks one_of within
written_so = record { unbroken = refl; at_zero = refl; in_house = refl; atom_in_house = refl; at71 = refl; at72 = refl }

record Refusals : Type 0 where
  -- one byte short: nothing is written
  one_byte_short : house (used 16) text (table tree) ≡ record { serializer = fresh_serializer; answer = refused_with 22; buffer = used 16 }
  -- "the zero-length atom isn't" one
  zero_length : shown (serialize_tree house_style [] fresh_serializer text (1 ∷ 1 ∷ 0 ∷ 1 ∷ []) 0) ≡ record { text = []; answer = refused_with 17 }
  -- a list inside 200 is written where its two bytes have room
  deeper : (serialize_tree house_style (used 202) deep text (0 ∷ 0 ∷ 0 ∷ 1 ∷ []) 201).answer ≡ answered 200
  deepest : (serialize_tree house_style (used 201) deep text (0 ∷ 0 ∷ 0 ∷ 1 ∷ []) 201).answer ≡ refused_with 22
  -- 15 before 17
  no_tree : (serialize_tree house_style [] fresh_serializer text (0 ∷ 1 ∷ 0 ∷ 3 ∷ 1 ∷ 1 ∷ 0 ∷ 1 ∷ []) 0).answer ≡ refused_with 15
  -- 17 before 19
  zero_length_finished : (serialize_tree house_style [] finished text (1 ∷ 1 ∷ 0 ∷ 1 ∷ []) 0).answer ≡ refused_with 17
  -- 19 before 22
  is_finished : (serialize_tree house_style [] finished text (1 ∷ 1 ∷ 1 ∷ 1 ∷ []) 0).answer ≡ refused_with 19

refusals : Refusals
unfolding text shown deep finished serialize_tree house_at house_style text_calls write_tree write_node written fits node_calls row_calls atoms_hold atoms_hold_all is_atom_prefix sits kind_prefix kind_of has_quote is_string ends_string ends_escaped part_of decide row ahead only guard bind size sizes children table_at tables run step pasted fresh_serializer is_sound place first_atom first_list laid inner_as inner phase_after close_as close last put_in put_atom begin_in begin_list end_in end_list finish_in finish_writing is_atom outside inside escaped class_of is_atom_chr marks one_of within
refusals = record { one_byte_short = refl; zero_length = refl; deeper = refl; deepest = refl; no_tree = refl; zero_length_finished = refl; is_finished = refl }
