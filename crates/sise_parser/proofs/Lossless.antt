-- What an answer means loses nothing: two answers that mean the same are the same. So a contract about the meaning is one about the answer itself.
-- Assumes nothing.
use mathlib.Core.Path.{◌≡◌, refl, sym, ap, ◌∙◌}
use mathlib.Core.Bool.{cond}
use lib.Dec.{eqb}
use Rattle.sise_parser.specs.Refusals.{Refusal, refusal_of}
use Rattle.sise_parser.specs.Reader as reader
use Rattle.sise_parser.specs.Meaning.{answer_as, next_as, finished_as}
use Rattle.sise_parser.specs.Parser.{parsed_as, Parsed}
use Rattle.sise_parser.specs.declared.parser.Parser.{Parser}
use Rattle.sise_parser.specs.declared.parser.Parsed as code
use Rattle.sise_parser.specs.declared.error.ParseError.{ParseError}
use Rattle.sise_parser.specs.declared.error.ParseError.TheVariants.{IllegalChr, IllegalChrInString, IllegalChrInComment, UnfinishedString, UnexpectedEof, UnexpectedRightParen, ExpectedEof, IllFormedChr, ParsingFinished, ParsingNotFinished, UnsoundRecord}
use Rattle.std.specs.Prelude.{Result, Ok, Err}
use Rattle.sise_parser.specs.declared.reader.ParsedItem.{ParsedItem}
use Rattle.sise_parser.specs.declared.reader.Next.{Next}
use Rattle.sise_parser.specs.declared.reader.Reader.{Reader}

-- the error that a refusal was
abbrev error_of : Refusal → ParseError
error_of e =
    cond (eqb e.number 1) (IllegalChr e.place e.code) (
    cond (eqb e.number 2) (IllegalChrInString e.place e.code) (
    cond (eqb e.number 3) (IllegalChrInComment e.place e.code) (
    cond (eqb e.number 4) (UnfinishedString e.place) (
    cond (eqb e.number 5) (UnexpectedEof e.place) (
    cond (eqb e.number 6) (UnexpectedRightParen e.place) (
    cond (eqb e.number 7) (ExpectedEof e.place) (
    cond (eqb e.number 8) (IllFormedChr e.place) (
    cond (eqb e.number 9) ParsingFinished (
    cond (eqb e.number 10) ParsingNotFinished UnsoundRecord)))))))))

error_back : (e : ParseError) → error_of (refusal_of e) ≡ e
error_back (IllegalChr p c) = refl
error_back (IllegalChrInString p c) = refl
error_back (IllegalChrInComment p c) = refl
error_back (UnfinishedString p) = refl
error_back (UnexpectedEof p) = refl
error_back (UnexpectedRightParen p) = refl
error_back (ExpectedEof p) = refl
error_back (IllFormedChr p) = refl
error_back ParsingFinished = refl
error_back ParsingNotFinished = refl
error_back UnsoundRecord = refl

abbrev answer_of : reader.Answer → Result ParsedItem ParseError
answer_of (reader.item i) = Ok i
answer_of (reader.refused e) = Err (error_of e)

answer_back : (a : Result ParsedItem ParseError) → answer_of (answer_as a) ≡ a
answer_back (Ok i) = refl
answer_back (Err e) = ap Err (error_back e)

abbrev next_of : reader.Next → Next
next_of n = record { reader = n.reader; answer = answer_of n.answer }

next_back : (n : Next) → next_of (next_as n) ≡ n
next_back n = ap (λ (a : Result ParsedItem ParseError). made n.reader a) (answer_back n.answer)
  where
    made : Reader → Result ParsedItem ParseError → Next
    made r a = record { reader = r; answer = a }

-- the same of the thin reader's
abbrev parsed_from : Parsed → code.Parsed
parsed_from p = record { parser = p.parser; answer = answer_of p.answer }

parsed_back : (p : code.Parsed) → parsed_from (parsed_as p) ≡ p
parsed_back p = ap (λ (a : Result ParsedItem ParseError). made p.parser a) (answer_back p.answer)
  where
    made : Parser → Result ParsedItem ParseError → code.Parsed
    made r a = record { parser = r; answer = a }

abbrev finished_of : reader.Ending → Result (Unit {0}) ParseError
finished_of reader.ended = Ok tt
finished_of (reader.not_ended e) = Err (error_of e)

finished_back : (f : Result (Unit {0}) ParseError) → finished_of (finished_as f) ≡ f
finished_back (Ok u) = refl
finished_back (Err e) = ap Err (error_back e)

pub refusal_lossless : (e f : ParseError) → refusal_of e ≡ refusal_of f → e ≡ f
refusal_lossless e f d = sym (error_back e) ∙ ap error_of d ∙ error_back f

pub next_lossless : (m n : Next) → next_as m ≡ next_as n → m ≡ n
next_lossless m n d = sym (next_back m) ∙ ap next_of d ∙ next_back n

pub parsed_lossless : (p q : code.Parsed) → parsed_as p ≡ parsed_as q → p ≡ q
parsed_lossless p q d = sym (parsed_back p) ∙ ap parsed_from d ∙ parsed_back q

pub finished_lossless : (f g : Result (Unit {0}) ParseError) → finished_as f ≡ finished_as g → f ≡ g
finished_lossless f g d = sym (finished_back f) ∙ ap finished_of d ∙ finished_back g
