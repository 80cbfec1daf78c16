-- What the code's answers of the writing calls mean (document 01, "Refusals" and "Trees").
-- Assumes nothing.
use Rattle.std.specs.Prelude.{ℕ, Result, Ok, Err}
use Rattle.sise_parser.specs.Refusals.{Refusal, refusal}
use Rattle.sise_serializer.specs.declared.serializer.Wrote.{Wrote}
use Rattle.sise_tree.specs.Answers.{Answer, answered, refused_with}
use Rattle.sise_tree.specs.declared.tree.TableError.{TableError}
use Rattle.sise_tree.specs.declared.tree.TableError.TheVariants as table
use Rattle.sise_tree_writer.specs.declared.serialize.WriteTreeError.{WriteTreeError}
use Rattle.sise_tree_writer.specs.declared.serialize.WriteTreeError.TheVariants.{TextTooLong, UnsoundRecord, NotATree, InvalidAtom, WritingFinished, NoRoom, SizeChanged}

-- what a call hands back that writes a tree
abbrev pub TreeWrote : Type 0
TreeWrote = Wrote WriteTreeError

-- the number of each refusal
abbrev pub error_number : WriteTreeError → ℕ
error_number TextTooLong = 13
error_number UnsoundRecord = 11
error_number NotATree = 15
error_number InvalidAtom = 17
error_number WritingFinished = 19
error_number NoRoom = 22
error_number SizeChanged = 23

-- it has no place and no code point
abbrev pub write_refusal : WriteTreeError → Refusal
write_refusal e = refusal (error_number e) 0 0

-- the offset, or the number, of each answer
abbrev pub put_as : Result ℕ WriteTreeError → Answer
put_as (Ok o) = answered o
put_as (Err e) = refused_with (error_number e)

-- the refusal of a table that holds no tree of atoms: 15 or 17
abbrev pub refusal_of : TableError → WriteTreeError
refusal_of table.NotATree = NotATree
refusal_of table.NoAtom = InvalidAtom
