-- What a tree call's answer means loses nothing: two answers that mean the same are the same. So a contract about the meaning is one about the answer itself.
-- Assumes nothing.
use mathlib.Core.Path.{◌≡◌, refl, sym, ap, ◌∙◌}
use mathlib.Core.Bool.{cond}
use mathlib.Core.List.{List}
use Prim.Native.Nat.{ℕ}
use lib.Dec.{eqb}
use Rattle.sise_parser.specs.Refusals.{refusal_of}
use Rattle.sise_parser.specs.declared.error.ParseError.{ParseError}
use Rattle.sise_parser.specs.declared.error.ParseError.TheVariants as error
use Rattle.sise_parser.specs.declared.reader.Reader.{Reader}
use Rattle.sise_parser.proofs.Lossless.{refusal_lossless}
use Rattle.sise_tree.specs.Answers.{Answer, answered, refused, path_refusal, indexed_as, parsed_as}
use Rattle.sise_tree.specs.FindPath as find
use Rattle.sise_tree.specs.FindPath.{Lookup, found_as}
use Rattle.sise_tree.specs.declared.find.Found.{Found}
use Rattle.sise_tree.specs.ParseTree.{Parses, DoesParse}
use Rattle.std.specs.Prelude.{Result, Ok, Err}
use Rattle.sise_tree.specs.declared.tree.PathError.{PathError}
use Rattle.sise_tree.specs.declared.tree.PathError.TheVariants.{TextTooLong, NotATree, NoSuchNode}
use Rattle.sise_tree.specs.declared.parse.TreeError.{TreeError}
use Rattle.sise_tree.specs.declared.parse.TreeError.TheVariants.{Refused, UnexpectedListEnd, TableFull}
use Rattle.sise_tree.specs.declared.parse.TreeRead.{TreeRead}

-- ---- index_path and find_path

-- the error that has this number
abbrev path_error : ℕ → PathError
path_error n = cond (eqb n 13) TextTooLong (cond (eqb n 15) NotATree NoSuchNode)

path_error_back : (e : PathError) → path_error (path_refusal e).number ≡ e
path_error_back TextTooLong = refl
path_error_back NotATree = refl
path_error_back NoSuchNode = refl

-- the answer that has this meaning
abbrev indexed_of : Answer → Result ℕ PathError
indexed_of (answered i) = Ok i
indexed_of (refused e) = Err (path_error e.number)

indexed_back : (a : Result ℕ PathError) → indexed_of (indexed_as a) ≡ a
indexed_back (Ok i) = refl
indexed_back (Err e) = ap Err (path_error_back e)

pub indexed_lossless : (a b : Result ℕ PathError) → indexed_as a ≡ indexed_as b → a ≡ b
indexed_lossless a b d = sym (indexed_back a) ∙ ap indexed_of d ∙ indexed_back b

abbrev found_of : Lookup → Result Found PathError
found_of (find.found i n) = Ok (record { index = i; seen = n })
found_of (find.refused r) = Err (path_error r)

found_back : (a : Result Found PathError) → found_of (found_as a) ≡ a
found_back (Ok f) = refl
found_back (Err e) = ap Err (path_error_back e)

pub found_lossless : (a b : Result Found PathError) → found_as a ≡ found_as b → a ≡ b
found_lossless a b d = sym (found_back a) ∙ ap found_of d ∙ found_back b

-- ---- parse_tree and parse_text

-- the answer that has this meaning, where it is no refusal of the reader's; else `other`
abbrev parsed_of : Result ℕ TreeError → Answer → Result ℕ TreeError
parsed_of other (answered n) = Ok n
parsed_of other (refused e) =
    cond (eqb e.number 12) (Err (UnexpectedListEnd e.place)) (cond (eqb e.number 13) (Err TreeError.TextTooLong) (cond (eqb e.number 14) (Err TableFull) other))

-- a refusal of the reader's has another number
others : (other : Result ℕ TreeError) (e : ParseError) → parsed_of other (refused (refusal_of e)) ≡ other
others other (error.IllegalChr p c) = refl
others other (error.IllegalChrInString p c) = refl
others other (error.IllegalChrInComment p c) = refl
others other (error.UnfinishedString p) = refl
others other (error.UnexpectedEof p) = refl
others other (error.UnexpectedRightParen p) = refl
others other (error.ExpectedEof p) = refl
others other (error.IllFormedChr p) = refl
others other error.ParsingFinished = refl
others other error.ParsingNotFinished = refl
others other error.UnsoundRecord = refl

parsed_back : (a : Result ℕ TreeError) → parsed_of a (parsed_as a) ≡ a
parsed_back (Ok n) = refl
parsed_back (Err (Refused e)) = others (Err (Refused e)) e
parsed_back (Err (UnexpectedListEnd p)) = refl
parsed_back (Err TreeError.TextTooLong) = refl
parsed_back (Err TableFull) = refl

pub parsed_lossless : (a b : Result ℕ TreeError) → parsed_as a ≡ parsed_as b → a ≡ b
parsed_lossless a (Ok n) d = sym (parsed_back a) ∙ ap (parsed_of a) d
parsed_lossless a (Err (UnexpectedListEnd p)) d = sym (parsed_back a) ∙ ap (parsed_of a) d
parsed_lossless a (Err TreeError.TextTooLong) d = sym (parsed_back a) ∙ ap (parsed_of a) d
parsed_lossless a (Err TableFull) d = sym (parsed_back a) ∙ ap (parsed_of a) d
parsed_lossless (Ok n) (Err (Refused f)) d = ap (parsed_of (Err (Refused f))) d ∙ parsed_back (Err (Refused f))
parsed_lossless (Err (UnexpectedListEnd p)) (Err (Refused f)) d = ap (parsed_of (Err (Refused f))) d ∙ parsed_back (Err (Refused f))
parsed_lossless (Err TreeError.TextTooLong) (Err (Refused f)) d = ap (parsed_of (Err (Refused f))) d ∙ parsed_back (Err (Refused f))
parsed_lossless (Err TableFull) (Err (Refused f)) d = ap (parsed_of (Err (Refused f))) d ∙ parsed_back (Err (Refused f))
parsed_lossless (Err (Refused e)) (Err (Refused f)) d = ap (λ (x : ParseError). Err (Refused x)) (refusal_lossless e f (cc))

-- so parse_tree's contract has one result
pub parse_lossless : {d : Parses} {r q : TreeRead} {now now' : List ℕ} → DoesParse d r now → DoesParse d q now' → (r ≡ q) × (now ≡ now')
parse_lossless {r = r} {q = q} h k = (
  ap (λ (x : Reader). made x r.answer) (h.reader ∙ sym k.reader) ∙ ap (made q.reader) (parsed_lossless r.answer q.answer (h.answer ∙ sym k.answer)),
  h.words ∙ sym k.words,
)
  where
    made : Reader → Result ℕ TreeError → TreeRead
    made x a = record { reader = x; answer = a }
