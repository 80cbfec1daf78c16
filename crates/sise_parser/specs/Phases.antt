-- The number of each phase, as a record in words has it.
-- Assumes nothing.
use Rattle.std.specs.Prelude.{ℕ, ◌≡◌, Result, MatchResult}
use Rattle.sise_parser.specs.declared.reader.Phase.{Phase}
use Rattle.sise_parser.specs.declared.reader.Phase.TheVariants.{Beginning, Parsing, Finishing}
use Rattle.sise_parser.specs.declared.reader.UnknownPhase.{UnknownPhase}

abbrev pub phase_number : Phase → ℕ
phase_number Beginning = 0
phase_number Parsing = 1
phase_number Finishing = 2

-- the phase with this number, or an error with a number that no phase has
abbrev pub ReadsPhase : ℕ → Result Phase UnknownPhase → Type 0
ReadsPhase word r =
    MatchResult r (λ phase. phase_number phase ≡ word) (λ e. (e.0 ≡ word) × ((phase : Phase) → phase_number phase ≡ word → ⊥))
