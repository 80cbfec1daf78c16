-- The last line that the program items prints.
-- Assumes nothing.
use Rattle.std.specs.Prelude.{List, [], ◌∷◌, ◌++◌, ℕ, Result, Ok, Err}
use Rattle.sise_parser.specs.Refusals.{refusal_of}
use Rattle.sise_parser.specs.declared.error.ParseError.{ParseError}
use Rattle.lines.specs.Put.{refusal_text}

-- `ok`, or `refused number place` with document 01's number, and the place 0 where it has none
unfoldable pub last_line : Result (Unit {0}) ParseError → List ℕ
last_line (Ok _) = 111 ∷ 107 ∷ 10 ∷ []
last_line (Err e) = refusal_text (114 ∷ 101 ∷ 102 ∷ 117 ∷ 115 ∷ 101 ∷ 100 ∷ []) 2 (refusal_of e) ++ (10 ∷ [])
