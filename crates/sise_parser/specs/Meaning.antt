-- What the code's answers mean: each enum's cases by the definitions' own.
-- Assumes nothing.
use Rattle.std.specs.Prelude.{◌≡◌, Result, Ok, Err, List, ℕ, ◌≤◌, ◌<◌, length, drop, get_or}
use Rattle.sise_util.specs.Classes.{class_of, class_number}
use Rattle.sise_parser.specs.Refusals.{refusal_of}
use Rattle.sise_parser.specs.Lexer as lexer
use Rattle.sise_parser.specs.Reader as reader
use Rattle.sise_parser.specs.declared.error.ParseError.{ParseError}
use Rattle.sise_parser.specs.declared.reader.ParsedItem.{ParsedItem}
use Rattle.sise_parser.specs.declared.reader.Next.{Next}
use Rattle.sise_parser.specs.declared.lexer.Token.{Token}
use Rattle.sise_parser.specs.declared.lexer.Token.TheVariants.{Eof, LeftParen, RightParen, Atom}
use Rattle.sise_parser.specs.declared.lexer.Lexeme.{Lexeme}
use Rattle.sise_parser.specs.declared.lexer.Context.{Context}
use Rattle.sise_parser.specs.declared.lexer.Context.TheVariants.{Outside, InString, InComment}
use Rattle.sise_parser.specs.declared.lexer.Wrong.{Wrong}

abbrev pub token_as : Token → lexer.Token
token_as Eof = lexer.eof
token_as LeftParen = lexer.opening
token_as RightParen = lexer.closing
token_as (Atom n) = lexer.atom n

abbrev pub wrong_as : Wrong → lexer.Lexed
wrong_as w = lexer.bad (refusal_of w.error) w.position

abbrev pub lexeme_as : Lexeme → lexer.Lexed
lexeme_as x = lexer.found (token_as x.token) x.start x.end

abbrev pub lexed_as : Result Lexeme Wrong → lexer.Lexed
lexed_as (Ok x) = lexeme_as x
lexed_as (Err w) = wrong_as w

-- where a wrong character stands, by the refusal's number
abbrev pub context_number : Context → ℕ
context_number Outside = 1
context_number InString = 2
context_number InComment = 3

-- what the end of a string means for an atom that began at s: the atom goes on after it, or is refused
abbrev pub string_then : List ℕ → Result ℕ Wrong → ℕ → lexer.Lexed
string_then text (Ok q) s = lexer.plain (drop q text) q s
string_then text (Err w) s = wrong_as w

-- it is not before the place from which it was looked for, and within the text
abbrev pub EndsFrom : ℕ → ℕ → Result ℕ Wrong → Type 0
EndsFrom from n (Ok q) = (from ≤ q) × (q ≤ n)
EndsFrom from n (Err w) = Unit {0}

pub record Ends (text : List ℕ) (from : ℕ) (r : Result ℕ Wrong) : Type 0 where
  pub same : (s : ℕ) → lexer.string (drop from text) from s ≡ string_then text r s
  pub after : EndsFrom from (length text) r

-- a byte whose class has the number k stands at `at` of the text
pub record Reads (text : List ℕ) (at k : ℕ) : Type 0 where
  pub inside : at < length text
  pub class : k ≡ class_number (class_of (get_or text at 0))

abbrev pub answer_as : Result ParsedItem ParseError → reader.Answer
answer_as (Ok i) = reader.item i
answer_as (Err e) = reader.refused (refusal_of e)

-- the record is handed back as it is
abbrev pub next_as : Next → reader.Next
next_as n = reader.next n.reader (answer_as n.answer)

abbrev pub finished_as : Result (Unit {0}) ParseError → reader.Ending
finished_as (Ok u) = reader.ended
finished_as (Err e) = reader.not_ended (refusal_of e)
