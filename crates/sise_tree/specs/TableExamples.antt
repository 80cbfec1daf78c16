-- Document 01's worked table, with 02's third words, tables that hold none, and its paths, by computation.
-- Assumes nothing.
use Rattle.std.specs.Prelude.{ℕ, ◌≡◌, refl, List, [], ◌∷◌, ◌++◌, take}
use Rattle.std.proofs.Math.Option.{none, some}
use Rattle.sise_util.specs.Classes.{class_of}
use Rattle.sise_util.specs.Atom.{kind_prefix, kind_of, is_atom, outside, inside, escaped, has_quote, is_string, ends_string, ends_escaped}
use Rattle.sise_parser.specs.Examples.{worked_text as text}
use Rattle.sise_tree.specs.Tree.{Node, atom, list, empty, ◌then◌, size, sizes, children, sits, table_at, table, tables}
use Rattle.sise_tree.specs.Decision.{guard, bind, row, ahead, only, decide}
use Rattle.sise_tree.specs.IndexPath.{node_at, child_at, index_path}
use Rattle.sise_tree.specs.Answers.{answered, refused_with}

-- the tree of `(z (+1 "a b") ~)`, and the list in it
abbrev inner : Node
inner = list (atom 1 4 2 then (atom 2 7 5 then empty))

abbrev pub worked : Node
worked = list (atom 1 1 1 then (inner then (atom 1 14 1 then empty)))

-- the words of the inner list, whose third word is d and the first word of whose string is k, and of the node after it
abbrev kind_words : ℕ → ℕ → List ℕ
kind_words k d = 0 ∷ 2 ∷ d ∷ 3 ∷ 1 ∷ 4 ∷ 2 ∷ 1 ∷ k ∷ 7 ∷ 5 ∷ 1 ∷ 1 ∷ 14 ∷ 1 ∷ 1 ∷ []

-- "The worked table's fifth node is now 2 7 5 1"
abbrev inner_words : ℕ → List ℕ
inner_words d = kind_words 2 d

-- of the whole tree, whose root's third word is r
abbrev words_with : ℕ → ℕ → List ℕ
words_with r d = 0 ∷ 3 ∷ r ∷ 6 ∷ 1 ∷ 1 ∷ 1 ∷ 1 ∷ inner_words d

-- "the worked table's third node is now 0 2 2 3"
abbrev pub words : List ℕ
words = words_with 0 2

-- the lists of `(()(()))`, the last of which stands in the one before it
abbrev lists : ℕ → ℕ → ℕ → List ℕ
lists a b c = 0 ∷ 2 ∷ 0 ∷ 4 ∷ 0 ∷ 0 ∷ a ∷ 1 ∷ 0 ∷ 1 ∷ b ∷ 2 ∷ 0 ∷ 0 ∷ c ∷ 1 ∷ []

record Tables : Type 0 where
  of_worked : table worked ≡ words
  of_lists : table (list (list empty then (list (list empty then empty) then empty))) ≡ lists 1 2 1

its_tables : Tables
unfolding table_at tables size sizes children
its_tables = record { of_worked = refl; of_lists = refl }

record Held : Type 0 where
  alone : decide text words ≡ some worked
  -- "Words after the span aren't looked at"
  words_after : decide text (words ++ (7 ∷ [])) ≡ some worked
  -- "A subtree is the part of the table from its node": its first node's third word is 2
  subtree : decide text (inner_words 2) ≡ some inner
  -- "not looked at in the first node lent"
  root_third_any : decide text (words_with 4294967295 2) ≡ some worked
  empty_root_third_any : decide text (0 ∷ 0 ∷ 7 ∷ 1 ∷ []) ≡ some (list empty)
  -- "where the bytes are no atom, each of the three passes": the space before the inner list, and no byte
  no_atom_plain : decide text (1 ∷ 2 ∷ 1 ∷ 1 ∷ []) ≡ some (atom 1 2 1)
  no_atom_string : decide text (2 ∷ 2 ∷ 1 ∷ 1 ∷ []) ≡ some (atom 2 2 1)
  no_atom_mixed : decide text (3 ∷ 2 ∷ 0 ∷ 1 ∷ []) ≡ some (atom 3 2 0)

held : Held
unfolding text decide row ahead only guard bind sizes sits kind_prefix kind_of is_atom outside inside escaped has_quote is_string ends_string ends_escaped class_of
held = record { alone = refl; words_after = refl; subtree = refl; root_third_any = refl; empty_root_third_any = refl; no_atom_plain = refl; no_atom_string = refl; no_atom_mixed = refl }

record HoldNone : Type 0 where
  no_words : decide text [] ≡ none
  three_words : decide text (1 ∷ 1 ∷ 1 ∷ []) ≡ none
  -- 15's example
  first_word_four : decide text (4 ∷ 1 ∷ 1 ∷ 1 ∷ []) ≡ none
  -- 1 for a string, 2 and 3 for a plain atom, and 0 with an atom's other words
  plain_string : decide text (kind_words 1 2) ≡ none
  mixed_string : decide text (kind_words 3 2) ≡ none
  string_plain : decide text (2 ∷ 1 ∷ 1 ∷ 1 ∷ []) ≡ none
  mixed_plain : decide text (3 ∷ 1 ∷ 1 ∷ 1 ∷ []) ≡ none
  list_atom : decide text (0 ∷ 1 ∷ 1 ∷ 1 ∷ []) ≡ none
  -- bytes that are no atom
  no_atom_four : decide text (4 ∷ 2 ∷ 1 ∷ 1 ∷ []) ≡ none
  -- the last atom ends at 15
  atom_past_text : decide (take 14 text) words ≡ none
  atom_span_two : decide text (1 ∷ 1 ∷ 1 ∷ 2 ∷ 1 ∷ 1 ∷ 1 ∷ 1 ∷ []) ≡ none
  span_zero : decide text (0 ∷ 0 ∷ 0 ∷ 0 ∷ []) ≡ none
  span_not_filled : decide text (0 ∷ 1 ∷ 0 ∷ 3 ∷ 1 ∷ 1 ∷ 1 ∷ 1 ∷ 1 ∷ 4 ∷ 2 ∷ 1 ∷ []) ≡ none
  one_child_short : decide text (0 ∷ 2 ∷ 0 ∷ 2 ∷ 1 ∷ 1 ∷ 1 ∷ 1 ∷ []) ≡ none
  -- the first node's nodes do not fit
  last_node_cut : decide text (0 ∷ 1 ∷ 0 ∷ 2 ∷ 1 ∷ 1 ∷ 1 ∷ []) ≡ none
  -- 0, and one too far back
  third_word_zero : decide text (words_with 0 0) ≡ none
  third_word_three : decide text (words_with 0 3) ≡ none
  -- of an empty list, which stands first
  empty_third_zero : decide [] (lists 0 2 1) ≡ none
  -- the parent's index: of the second child, and of a list in it
  third_word_index : decide [] (lists 1 0 1) ≡ none
  inner_third_index : decide [] (lists 1 2 2) ≡ none

hold_none : HoldNone
unfolding text decide row ahead only guard bind sizes sits kind_prefix kind_of is_atom outside inside escaped has_quote is_string ends_string ends_escaped class_of
hold_none =
    record {
      no_words = refl;
      three_words = refl;
      first_word_four = refl;
      plain_string = refl;
      mixed_string = refl;
      string_plain = refl;
      mixed_plain = refl;
      list_atom = refl;
      no_atom_four = refl;
      atom_past_text = refl;
      atom_span_two = refl;
      span_zero = refl;
      span_not_filled = refl;
      one_child_short = refl;
      last_node_cut = refl;
      third_word_zero = refl;
      third_word_three = refl;
      empty_third_zero = refl;
      third_word_index = refl;
      inner_third_index = refl;
    }

-- "Path 1 1 gives 4; 3 and 0 0 give 16"
record Paths : Type 0 where
  empty_path : index_path words text [] ≡ answered 0
  one_one : index_path words text (1 ∷ 1 ∷ []) ≡ answered 4
  three : index_path words text (3 ∷ []) ≡ refused_with 16
  zero_zero : index_path words text (0 ∷ 0 ∷ []) ≡ refused_with 16
  -- 16's and 15's examples
  into_atom : index_path (1 ∷ 0 ∷ 1 ∷ 1 ∷ []) (97 ∷ []) (0 ∷ []) ≡ refused_with 16
  no_tree : index_path (4 ∷ 1 ∷ 1 ∷ 1 ∷ []) text [] ≡ refused_with 15
  -- a list's third word, and an empty list's
  wrong_third : index_path (words_with 0 1) text [] ≡ refused_with 15
  wrong_empty_third : index_path (lists 2 2 1) text [] ≡ refused_with 15
  -- in a subtree
  in_subtree : index_path (inner_words 2) text (1 ∷ []) ≡ answered 2

paths : Paths
unfolding text index_path node_at child_at decide row ahead only guard bind size sizes sits kind_prefix kind_of is_atom outside inside escaped has_quote is_string ends_string ends_escaped class_of
paths =
    record {
      empty_path = refl;
      one_one = refl;
      three = refl;
      zero_zero = refl;
      into_atom = refl;
      no_tree = refl;
      wrong_third = refl;
      wrong_empty_third = refl;
      in_subtree = refl;
    }
