-- Size first, then the text (document 02, 2.2): "Writing a tree splits into an enquiry ... and a commit".
-- Assumes nothing.
use Rattle.std.specs.Prelude.{ℕ, ◌-◌, ◌≤◌, ◌≡◌, Bool, false, ◌&&◌, cond, List, eqb, length, Result, Ok, Err}
use Rattle.sise_serializer.specs.Serializer.{Style, fresh_serializer}
use Rattle.sise_serializer.specs.declared.serializer.Serializer.{Serializer}
use Rattle.sise_tree.specs.Answers.{Answer, answered, refused}
use Rattle.sise_tree_writer.specs.Answers.{error_number}
use Rattle.sise_tree_writer.specs.SerializeTree.{Writes, refuse, serialize_tree, DoesWrite}
use Rattle.sise_tree_writer.specs.Writing.{write_text, writes}
use Rattle.sise_tree_writer.specs.Answers.{TreeWrote}
use Rattle.sise_tree_writer.specs.declared.serialize.WriteTreeError.{WriteTreeError}
use Rattle.sise_tree_writer.specs.declared.size.TreeSize.{TreeSize}
use Rattle.sise_tree_writer.specs.declared.writing.Writing.{Writing}

-- "an enquiry, which answers the bytes, breaks and indents that this tree would add, or the refusal", by its number
pub data Enquiry : Type 0 where
  adds : (bytes breaks indents : ℕ) → Enquiry
  refuses : ℕ → Enquiry

-- the numbers of a size, or the number of a refusal
abbrev pub measured_as : Result TreeSize WriteTreeError → Enquiry
measured_as (Ok z) = adds z.bytes z.breaks z.indents
measured_as (Err e) = refuses (error_number e)

-- a refusal's number, and 0 where there is none
abbrev pub number_in : Enquiry → ℕ
number_in (adds bytes breaks indents) = 0
number_in (refuses n) = n

-- what was added between the records w and v
abbrev pub added : Serializer → Serializer → Enquiry
added w v = adds (v.position - w.position) (v.breaks - w.breaks) (v.indents - w.indents)

abbrev pub enquiry_by : Answer → Serializer → Serializer → Enquiry
enquiry_by (answered o) w v = added w v
enquiry_by (refused e) w v = refuses e.number

-- the enquiry's answer, where one call from the record w does d
abbrev pub enquiry : Serializer → Writes → Enquiry
enquiry w d = enquiry_by d.answer w d.serializer

-- two answers are one
abbrev pub same : Enquiry → Enquiry → Bool
same (adds bytes breaks indents) (adds x y z) = eqb bytes x && (eqb breaks y && eqb indents z)
same (adds bytes breaks indents) (refuses n) = false
same (refuses m) (adds x y z) = false
same (refuses m) (refuses n) = eqb m n

-- "a commit, which takes that answer": one call would do d. Where 01 refuses it, so is the commit; "If the inputs now give another answer, the commit is
-- refused with 23, after all of 01's checks"
abbrev pub commit_by : Answer → Bool → List ℕ → Serializer → Writes → Writes
commit_by (refused e) isSame buffer w d = d
commit_by (answered o) isSame buffer w d = cond isSame d (refuse 23 buffer w)

unfoldable pub commit : List ℕ → Serializer → Writes → Enquiry → Writes
commit buffer w d given = commit_by d.answer (same given (enquiry w d)) buffer w d

-- the commit of a tree, and of a whole text
abbrev pub commit_tree : Style → List ℕ → Serializer → List ℕ → List ℕ → ℕ → Enquiry → Writes
commit_tree s buffer w text words t given = commit buffer w (serialize_tree s buffer w text words t) given

abbrev pub commit_text : Style → List ℕ → List ℕ → List ℕ → ℕ → Bool → Enquiry → Writes
commit_text s buffer text words t wished given = commit buffer fresh_serializer (write_text s buffer text words t wished) given

-- what the enquiry promises in a buffer of room bytes: its answer, whatever bytes are in it
abbrev pub MeasuresTree : Style → ℕ → Serializer → List ℕ → List ℕ → ℕ → Result TreeSize WriteTreeError → Type 0
MeasuresTree s room w text words t m = (b : List ℕ) → length b ≡ room → measured_as m ≡ enquiry w (serialize_tree s b w text words t)

abbrev pub MeasuresText : Style → ℕ → List ℕ → List ℕ → ℕ → Bool → Result TreeSize WriteTreeError → Type 0
MeasuresText s room text words t wished m = (b : List ℕ) → length b ≡ room → measured_as m ≡ enquiry fresh_serializer (write_text s b text words t wished)

-- what the commit promises, to which the answer m is handed over, and that ended with the result r and the buffer `now`
abbrev pub CommitsTree : Style → List ℕ → Serializer → List ℕ → List ℕ → ℕ → Result TreeSize WriteTreeError → TreeWrote → List ℕ → Type 0
CommitsTree s before w text words t m r now = DoesWrite (commit_tree s before w text words t (measured_as m)) r now

abbrev pub CommitsText : Style → List ℕ → List ℕ → List ℕ → ℕ → Bool → Result TreeSize WriteTreeError → TreeWrote → List ℕ → Type 0
CommitsText s before text words t wished m r now = DoesWrite (commit_text s before text words t wished (measured_as m)) r now

-- ---- what the private functions ask for and promise

-- of a writing x
abbrev pub MeasuresWriting : Writing → ℕ → Serializer → Result TreeSize WriteTreeError → Type 0
MeasuresWriting x room w m = (b : List ℕ) → length b ≡ room → measured_as m ≡ enquiry w (writes x b w)

abbrev pub CommitsWriting : Writing → List ℕ → Serializer → Result TreeSize WriteTreeError → TreeWrote → List ℕ → Type 0
CommitsWriting x before w m r now = DoesWrite (commit before w (writes x before w) (measured_as m)) r now

-- no count of the record w is above that of v
pub record Grown (w v : Serializer) : Type 0 where
  pub position : w.position ≤ v.position
  pub spaces : w.spaces ≤ v.spaces
  pub breaks : w.breaks ≤ v.breaks
  pub indents : w.indents ≤ v.indents
