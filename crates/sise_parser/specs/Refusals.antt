-- The reader's refusals by document 01's numbers ("Refusals").
-- Assumes nothing.
use Rattle.std.specs.Prelude.{ℕ, Result, Ok, Err}
use Rattle.sise_parser.specs.declared.error.ParseError.{ParseError}
use Rattle.sise_parser.specs.declared.error.ParseError.TheVariants.{IllegalChr, IllegalChrInString, IllegalChrInComment, UnfinishedString, UnexpectedEof, UnexpectedRightParen, ExpectedEof, IllFormedChr, ParsingFinished, ParsingNotFinished, UnsoundRecord}

-- a refusal of document 01: its number, its place and its code point, 0 where it has none
pub record Refusal : Type 0 where
  pub number : ℕ
  pub place : ℕ
  pub code : ℕ

abbrev pub refusal : ℕ → ℕ → ℕ → Refusal
refusal n p c = record { number = n; place = p; code = c }

-- the number and the values of each error
abbrev pub refusal_of : ParseError → Refusal
refusal_of (IllegalChr p c) = refusal 1 p c
refusal_of (IllegalChrInString p c) = refusal 2 p c
refusal_of (IllegalChrInComment p c) = refusal 3 p c
refusal_of (UnfinishedString p) = refusal 4 p 0
refusal_of (UnexpectedEof p) = refusal 5 p 0
refusal_of (UnexpectedRightParen p) = refusal 6 p 0
refusal_of (ExpectedEof p) = refusal 7 p 0
refusal_of (IllFormedChr p) = refusal 8 p 0
refusal_of ParsingFinished = refusal 9 0 0
refusal_of ParsingNotFinished = refusal 10 0 0
refusal_of UnsoundRecord = refusal 11 0 0

-- the number of an answer's refusal, 0 for none; m says what each refusal means
abbrev pub answer_number : {T E : Type 0} → (E → Refusal) → Result T E → ℕ
answer_number m (Ok x) = 0
answer_number m (Err e) = (m e).number
