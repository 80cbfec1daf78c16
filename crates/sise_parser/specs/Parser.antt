-- The thin reader: a parser is a text, held as the very reference that was passed, and the reader's record.
-- Assumes nothing.
use Rattle.std.specs.Prelude.{ℕ, List}
use Rattle.std.specs.Borrow.{Bor}
use Rattle.sise_parser.specs.Reader as reader
use Rattle.sise_parser.specs.Meaning.{answer_as}
use Rattle.sise_parser.specs.declared.reader.Reader.{Reader}
use Rattle.sise_parser.specs.declared.parser.Parser.{Parser}
use Rattle.sise_parser.specs.declared.parser.Parsed as code

abbrev pub parser : Bor (List ℕ) → Reader → Parser
parser text r = record { text = text; reader = r }

-- the parser at the start of a text
abbrev pub parser_of : Bor (List ℕ) → Parser
parser_of text = parser text reader.fresh_reader

-- the parser after a call, and the call's answer
pub record Parsed : Type 0 where
  pub parser : Parser
  pub answer : reader.Answer

-- what a call with this text hands back, by what the record's call does
abbrev pub parsed : Bor (List ℕ) → reader.Next → Parsed
parsed text n = record { parser = parser text n.reader; answer = n.answer }

-- the same text with the record after the call, and the answer
abbrev pub parsed_of : Parser → Parsed
parsed_of p = parsed p.text (reader.next_item p.text.now p.reader)

-- what the code's result means: the parser as it is, and the answer's meaning
abbrev pub parsed_as : code.Parsed → Parsed
parsed_as p = record { parser = p.parser; answer = answer_as p.answer }
