-- The reader's record and a refusal, as replay prints them.
-- Assumes nothing.
use Rattle.std.specs.Prelude.{List, [], ◌∷◌, ◌++◌, ℕ}
use Rattle.sise_parser.specs.Phases.{phase_number}
use Rattle.sise_parser.specs.Refusals.{Refusal}
use Rattle.sise_parser.specs.declared.reader.Reader.{Reader}
use Rattle.lines.specs.Put.{number}
use Rattle.lines.specs.Put as lines

-- ` | position phase lists`
unfoldable pub reader_text : Reader → List ℕ
reader_text r = 32 ∷ 124 ∷ (number r.position ++ number (phase_number r.phase) ++ number r.lists)

-- `! number place code`
abbrev pub refusal_text : Refusal → List ℕ
refusal_text r = lines.refusal_text (33 ∷ []) 3 r
