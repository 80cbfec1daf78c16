-- The bar and the three numbers stand one behind the other.
use Rattle.std.proofs.Common.{◌≡◌, refl, sym, [], ◌∷◌, ℕ, append_assoc}
use Rattle.std.proofs.lemmas.List.{append-nil}
use denote.Enum.Declared.{tag_of}
use Rattle.sise_parser.specs.contracts.reader.Phase.{the_type}
use Rattle.sise_parser.specs.declared.reader.Phase.{Phase}
use Rattle.sise_parser.specs.declared.reader.Reader.{Reader}
use Rattle.sise_parser.specs.Phases.{phase_number}
use Rattle.lines.specs.Put.{Output, put, number, numbers_text}
use Rattle.lines.proofs.Laws.{put_both}
use Rattle.replay_reader.specs.Text.{reader_text}
use Rattle.replay_reader.proofs.put_reader.Goals as goal

-- a phase as a number is its place among the phases
as_number : (phase : Phase) → tag_of the_type phase ≡ phase_number phase
as_number Phase.Beginning = refl
as_number Phase.Parsing = refl
as_number Phase.Finishing = refl

record_text : (o : Output) {p q : Output} (r : Reader) {n : ℕ} → n ≡ phase_number r.phase → p ≡ put o (32 ∷ 124 ∷ [])
    → q ≡ put p (numbers_text (r.position ∷ n ∷ r.lists ∷ [])) → q ≡ put o (reader_text r)
unfolding reader_text numbers_text
record_text o r i h k =
    rw (i, append-nil, sym (append_assoc (number r.position) (number (phase_number r.phase)) (number r.lists))) at (put_both o (32 ∷ 124 ∷ []) _ h k)

pub returns : goal.returns
returns c = record_text _ _ (as_number _) c.put_bytes.ensures c.put_numbers.ensures
