-- The reader's and the writer's records as words that a caller keeps from call to call (document 01, "parser.rs: the reader" and "serializer.rs: the writer").
-- Assumes nothing.
use Rattle.std.specs.Prelude.{ℕ, zero, suc, Bool, true, false, cond, List, [], ◌∷◌, get_or, Option, None, Some, option_map}
use Rattle.sise_parser.specs.Reader.{reader}
use Rattle.sise_parser.specs.Phases.{phase_number}
use Rattle.sise_parser.specs.declared.reader.Phase as readings
use Rattle.sise_parser.specs.declared.reader.Phase.TheVariants as reading
use Rattle.sise_parser.specs.declared.reader.Reader.{Reader}
use Rattle.sise_serializer.specs.Phases.{phase_word}
use Rattle.sise_serializer.specs.declared.serializer.Phase as writings
use Rattle.sise_serializer.specs.declared.serializer.Phase.TheVariants as writing
use Rattle.sise_serializer.specs.declared.serializer.Serializer.{Serializer}

-- ---- the reader's: "position, phase (beginning, parsing, finishing), open lists"

-- a phase is its number in that order
abbrev pub reader_phase : ℕ → Option readings.Phase
reader_phase zero = Some reading.Beginning
reader_phase (suc zero) = Some reading.Parsing
reader_phase (suc (suc zero)) = Some reading.Finishing
reader_phase (suc (suc (suc n))) = None

-- the record that three words mean, if the second is a phase
unfoldable pub reader_of : List ℕ → Option Reader
reader_of ws = option_map (λ (phase : readings.Phase). reader (get_or ws 0 0) phase (get_or ws 2 0)) (reader_phase (get_or ws 1 0))

-- a record's words
abbrev pub reader_words : Reader → List ℕ
reader_words r = r.position ∷ phase_number r.phase ∷ r.lists ∷ []

-- ---- the writer's: "position, phase (beginning, writing, finished, done), open lists D", the open lists with a break in them (02, 2.6), "list-beginning flag,
-- line length, and the added counts spaces, breaks, indents"

abbrev pub writer_phase : ℕ → Option writings.Phase
writer_phase zero = Some writing.Beginning
writer_phase (suc zero) = Some writing.Writing
writer_phase (suc (suc zero)) = Some writing.Finished
writer_phase (suc (suc (suc zero))) = Some writing.Done
writer_phase (suc (suc (suc (suc n)))) = None

-- a flag is 0 or 1
abbrev pub flag_of : ℕ → Option Bool
flag_of zero = Some false
flag_of (suc zero) = Some true
flag_of (suc (suc n)) = None

abbrev pub flag_word : Bool → ℕ
flag_word b = cond b 1 0

-- the record of nine words, of which two are the phase and the flag
abbrev pub serializer_in : List ℕ → Option writings.Phase → Option Bool → Option Serializer
serializer_in ws None b = None
serializer_in ws (Some phase) None = None
serializer_in ws (Some phase) (Some b) = Some (record {
  position = get_or ws 0 0;
  lists = get_or ws 2 0;
  broken = get_or ws 3 0;
  line_len = get_or ws 5 0;
  spaces = get_or ws 6 0;
  breaks = get_or ws 7 0;
  indents = get_or ws 8 0;
  phase = phase;
  list_beginning = b;
})

-- the record that nine words mean, if the second is a phase and the fifth a flag
unfoldable pub serializer_of : List ℕ → Option Serializer
serializer_of ws = serializer_in ws (writer_phase (get_or ws 1 0)) (flag_of (get_or ws 4 0))

abbrev pub serializer_words : Serializer → List ℕ
serializer_words w =
    w.position ∷
    phase_word w.phase ∷
    w.lists ∷
    w.broken ∷
    flag_word w.list_beginning ∷
    w.line_len ∷
    w.spaces ∷
    w.breaks ∷
    w.indents ∷
    []
