-- What the tree calls answer (document 01, "Refusals" and "Trees"), and what the code's answers mean.
-- Assumes nothing.
use Rattle.std.specs.Prelude.{ℕ, Result, Ok, Err}
use Rattle.sise_parser.specs.Refusals.{Refusal, refusal, refusal_of}
use Rattle.sise_tree.specs.declared.tree.PathError.{PathError}
use Rattle.sise_tree.specs.declared.tree.PathError.TheVariants.{TextTooLong, NotATree, NoSuchNode}
use Rattle.sise_tree.specs.declared.parse.TreeError.{TreeError}
use Rattle.sise_tree.specs.declared.parse.TreeError.TheVariants.{Refused, UnexpectedListEnd, TableFull}

pub data Answer : Type 0 where
  -- parse_tree: the number of nodes; serialize_tree: the first item's offset; index_path: the node's index
  answered : ℕ → Answer
  refused : Refusal → Answer

-- a refusal without a place
abbrev pub refused_with : ℕ → Answer
refused_with n = refused (refusal n 0 0)

-- the numbers and values of each case
abbrev pub path_refusal : PathError → Refusal
path_refusal TextTooLong = refusal 13 0 0
path_refusal NotATree = refusal 15 0 0
path_refusal NoSuchNode = refusal 16 0 0

abbrev pub indexed_as : Result ℕ PathError → Answer
indexed_as (Ok i) = answered i
indexed_as (Err e) = refused (path_refusal e)

abbrev pub tree_refusal : TreeError → Refusal
tree_refusal (Refused e) = refusal_of e
tree_refusal (UnexpectedListEnd p) = refusal 12 p 0
tree_refusal TreeError.TextTooLong = refusal 13 0 0
tree_refusal TableFull = refusal 14 0 0

abbrev pub parsed_as : Result ℕ TreeError → Answer
parsed_as (Ok n) = answered n
parsed_as (Err e) = refused (tree_refusal e)

-- a refusal's number, place and code point, 0 where there is none
abbrev pub number_of : Answer → ℕ
number_of (answered n) = 0
number_of (refused e) = e.number

abbrev pub place_of : Answer → ℕ
place_of (answered n) = 0
place_of (refused e) = e.place

abbrev pub code_of : Answer → ℕ
code_of (answered n) = 0
code_of (refused e) = e.code
