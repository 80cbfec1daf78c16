-- The phases: which end the items, and their words.
-- Assumes nothing.
use Rattle.std.specs.Prelude.{ℕ, ◌≡◌, ◌<◌, Bool, true, false, Result, MatchResult}
use Rattle.sise_serializer.specs.declared.serializer.Phase.{Phase}
use Rattle.sise_serializer.specs.declared.serializer.Phase.TheVariants.{Beginning, Writing, Finished, Done}
use Rattle.sise_parser.specs.declared.reader.UnknownPhase.{UnknownPhase}

-- the phases after which no item may follow
abbrev pub is_over : Phase → Bool
is_over Beginning = false
is_over Writing = false
is_over Finished = true
is_over Done = true

-- a phase's number
abbrev pub phase_word : Phase → ℕ
phase_word Beginning = 0
phase_word Writing = 1
phase_word Finished = 2
phase_word Done = 3

-- the phase with this number, or an error with a number that no phase has
abbrev pub DecodesPhase : ℕ → Result Phase UnknownPhase → Type 0
DecodesPhase word r = MatchResult r (λ phase. phase_word phase ≡ word) (λ e. (e.0 ≡ word) × (3 < word))
