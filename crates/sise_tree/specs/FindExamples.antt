-- The lookup of one node in document 01's worked table, and in tables that hold no tree, by computation.
-- Assumes nothing.
use Rattle.std.specs.Prelude.{ℕ, ◌≡◌, refl, List, [], ◌∷◌, take}
use Rattle.sise_parser.specs.Examples.{worked_text as text}
use Rattle.sise_tree.specs.TableExamples.{words}
use Rattle.sise_tree.specs.FindPath.{passing, follow, looked_up, found, refused, find_path}

record Trees : Type 0 where
  -- "the root"
  empty_path : find_path words text [] ≡ found 0 1
  -- "1 plus the sum of (index + 1) over the path"
  first : find_path words text (0 ∷ []) ≡ found 1 2
  third : find_path words text (2 ∷ []) ≡ found 5 4
  one_one : find_path words text (1 ∷ 1 ∷ []) ≡ found 4 5
  -- 16, as index_path has it
  three : find_path words text (3 ∷ []) ≡ refused 16
  zero_zero : find_path words text (0 ∷ 0 ∷ []) ≡ refused 16
  one_two : find_path words text (1 ∷ 2 ∷ []) ≡ refused 16

trees : Trees
unfolding text find_path follow passing looked_up
trees = record { empty_path = refl; first = refl; third = refl; one_one = refl; three = refl; zero_zero = refl; one_two = refl }

-- a list that says it has three children, whose third child's words are cut off after n words in all
abbrev cut : ℕ → List ℕ
cut n = take n (0 ∷ 3 ∷ 0 ∷ 4 ∷ 1 ∷ 0 ∷ 1 ∷ 1 ∷ 1 ∷ 2 ∷ 1 ∷ 1 ∷ 1 ∷ 4 ∷ 1 ∷ 1 ∷ [])

-- a list of two, the first of which has the first word k and steps by s
abbrev pair : ℕ → ℕ → List ℕ
pair k s = 0 ∷ 2 ∷ 9 ∷ 7 ∷ k ∷ 5 ∷ 9 ∷ s ∷ 0 ∷ 0 ∷ 9 ∷ 0 ∷ 1 ∷ 99 ∷ 99 ∷ 2 ∷ []

record Others : Type 0 where
  -- a root that isn't whole is 15 for each path
  no_words : find_path [] [] [] ≡ refused 15
  three_words : find_path (cut 3) [] (3 ∷ []) ≡ refused 15
  -- "an index not below the children word [..] gives 16 with no further node read"
  root_alone : find_path (cut 4) [] [] ≡ found 0 1
  past_children : find_path (cut 4) [] (3 ∷ []) ≡ refused 16
  cut_child : find_path (cut 4) [] (2 ∷ []) ≡ refused 15
  first_whole : find_path (cut 8) [] (0 ∷ []) ≡ found 1 2
  last_cut : find_path (cut 15) [] (2 ∷ []) ≡ refused 15
  last_whole : find_path (cut 16) [] (2 ∷ []) ≡ found 3 4
  -- "asked of an atom": "takes each first word but 0 for an atom"
  first_word_four : find_path (4 ∷ 1 ∷ 1 ∷ 1 ∷ []) [] [] ≡ found 0 1
  into_first_word_four : find_path (4 ∷ 1 ∷ 1 ∷ 1 ∷ 1 ∷ 0 ∷ 1 ∷ 1 ∷ []) [] (0 ∷ []) ≡ refused 16
  -- "steps past a child by its fourth word", an atom's too, and past a list whatever is in it
  by_two : find_path (pair 7 2) [] (1 ∷ []) ≡ found 3 3
  by_one : find_path (pair 0 1) [] (1 ∷ []) ≡ found 2 3
  -- "where the word to step by is 0": it is not stepped by where the child is the wanted one, or the list has none
  by_none : find_path (pair 1 0) [] (1 ∷ []) ≡ refused 15
  wanted : find_path (pair 1 0) [] (0 ∷ []) ≡ found 1 2
  empty_list : find_path (pair 0 1) [] (1 ∷ 0 ∷ []) ≡ refused 16
  -- past the table, by one node and by many
  past_table : find_path (pair 1 3) [] (1 ∷ []) ≡ refused 15
  far_past_table : find_path (pair 1 4294967295) [] (1 ∷ []) ≡ refused 15

others : Others
unfolding find_path follow passing looked_up
others =
    record {
      no_words = refl;
      three_words = refl;
      root_alone = refl;
      past_children = refl;
      cut_child = refl;
      first_whole = refl;
      last_cut = refl;
      last_whole = refl;
      first_word_four = refl;
      into_first_word_four = refl;
      by_two = refl;
      by_one = refl;
      by_none = refl;
      wanted = refl;
      empty_list = refl;
      past_table = refl;
      far_past_table = refl;
    }
