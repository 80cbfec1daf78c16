-- What find_path answers (document 02, 2.8).
-- Assumes nothing.
use Rattle.std.specs.Prelude.{ℕ, Option, Some, None, Result, Ok, Err, zero, suc, ◌+◌, ◌/◌, ◌≡◌, Bool, cond, ◌&&◌, List, [], ◌∷◌, ltb, eqb, length}
use Rattle.sise_tree.specs.Tree.{kind, first, span}
use Rattle.sise_tree.specs.ParseTree.{longest}
use Rattle.sise_tree.specs.Answers.{Answer, answered, path_refusal}
use Rattle.sise_tree.specs.declared.find.Found.{Found}
use Rattle.sise_tree.specs.declared.tree.PathError.{PathError}

-- the way of a lookup: the nodes looked at, one after the other, up to the node that is found or to the refusal
pub data Way : Type 0 where
  looks : ℕ → Way → Way
  finds : ℕ → Way
  stops : ℕ → Way

-- node i is read: 15 "where [..] a node to be read isn't whole inside the table"
abbrev pub reads : List ℕ → ℕ → Way → Way
reads words i w = cond (ltb i (length words / 4)) (looks i w) (stops 15)

-- "steps past a child by its fourth word", 15 "where the word to step by is 0": past so many children, the first of which is node i, to the node from
-- which the way goes on
unfoldable pub passing : List ℕ → ℕ → ℕ → (ℕ → Way) → Way
passing words zero i on = on i
passing words (suc k) i on = reads words i (cond (eqb (span words i) 0) (stops 15) (passing words k (i + span words i) on))

-- node i is a list, "takes each first word but 0 for an atom", and the index k is below its children word
abbrev pub has_child : List ℕ → ℕ → ℕ → Bool
has_child words i k = eqb (kind words i) 0 && ltb k (first words i)

-- from node i along the path: "at each list its children up to the wanted one"; "an index not below the children word, or asked of an atom, gives 16 with
-- no further node read"
unfoldable pub follow : List ℕ → ℕ → List ℕ → Way
follow words i [] = reads words i (finds i)
follow words i (k ∷ path) = reads words i (cond (has_child words i k) (passing words k (i + 1) (λ j. follow words j path)) (stops 16))

-- what is answered: a node's index "with the number of nodes looked at", or the number of a refusal, which "carries no number of nodes"
pub data Lookup : Type 0 where
  found : ℕ → ℕ → Lookup
  refused : ℕ → Lookup

-- at the end of a way, before which n nodes were looked at
unfoldable pub looked_up : ℕ → Way → Lookup
looked_up n (looks i w) = looked_up (n + 1) w
looked_up n (finds i) = found i n
looked_up n (stops r) = refused r

-- past so many children from node i on, wherever the way goes on: n nodes were looked at before them
abbrev pub past : ℕ → ℕ → (ℕ → Way) → Option ℕ → Lookup
past n k on (Some j) = looked_up (n + k) (on j)
past n k on None = refused 15

-- the lookup goes on so from node i with k children to pass, whatever has been looked at and comes behind
abbrev pub Passes : List ℕ → ℕ → ℕ → Option ℕ → Type 0
Passes words i k r = (n : ℕ) (on : ℕ → Way) → looked_up n (passing words k i on) ≡ past n k on r

-- "13 comes first"; then "the root"
unfoldable pub find_path : List ℕ → List ℕ → List ℕ → Lookup
find_path words text path = cond (ltb longest (length text)) (refused 13) (looked_up 0 (follow words 0 path))

-- "the sum of (index + 1) over the path"
unfoldable pub steps : List ℕ → ℕ
steps [] = 0
steps (k ∷ path) = k + 1 + steps path

-- "as the full lookup, with the number of nodes looked at; for a found node that is 1 plus the sum"
abbrev pub with_count : List ℕ → Answer → Lookup
with_count path (answered i) = found i (1 + steps path)
with_count path (Answer.refused e) = refused e.number

-- each node looked at on a way is such
abbrev pub EachLooked : (ℕ → Type 0) → Way → Type 0
EachLooked P (looks i w) = P i × EachLooked P w
EachLooked P (finds i) = Unit {0}
EachLooked P (stops r) = Unit {0}

-- node i has the same words in both tables, but for the third, which this lookup does not read
pub record SameNode (words others : List ℕ) (i : ℕ) : Type 0 where
  pub kinds : kind words i ≡ kind others i
  pub firsts : first words i ≡ first others i
  pub spans : span words i ≡ span others i

-- the numbers and values of each case
abbrev pub found_as : Result Found PathError → Lookup
found_as (Ok f) = found f.index f.seen
found_as (Err e) = refused (path_refusal e).number

-- a refusal's number, 0 for a node
abbrev pub found_number : Lookup → ℕ
found_number (found i n) = 0
found_number (refused r) = r

-- the node's index and the number of nodes looked at, 0 for a refusal
abbrev pub found_values : Lookup → List ℕ
found_values (found i n) = i ∷ n ∷ []
found_values (refused r) = 0 ∷ 0 ∷ []
