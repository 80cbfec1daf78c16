-- The words of a record mean it, and words that mean a record are its words: a number has one meaning as a phase or a flag at most, and a record's other
-- words are its numbers themselves.
-- Assumes nothing.
use Prim.Native.Nat.{ℕ, zero, suc, ◌<◌}
use native.Mathlib.Omega.{arith}
use mathlib.Core.Path.{◌≡◌, refl, sym, ap, ◌∙◌}
use mathlib.Core.Bool.{Bool, true, false}
use mathlib.Core.List.{List, [], ◌∷◌}
use lib.ListN.{length, get_or}
use Rattle.sise_parser.specs.Phases.{phase_number}
use Rattle.sise_parser.specs.Reader.{reader, fresh_reader}
use Rattle.sise_parser.specs.declared.reader.Phase as readings
use Rattle.sise_parser.specs.declared.reader.Phase.TheVariants as reading
use Rattle.sise_parser.specs.declared.reader.Reader.{Reader}
use Rattle.sise_serializer.specs.Serializer.{fresh_serializer}
use Rattle.sise_serializer.specs.declared.serializer.Phase as writings
use Rattle.sise_serializer.specs.declared.serializer.Phase.TheVariants as writing
use Rattle.sise_serializer.specs.declared.serializer.Serializer.{Serializer}
use Rattle.std.specs.Prelude.{Option, None, Some, option_map}
use Rattle.sise_serializer.specs.Phases.{phase_word}
use Rattle.sise_c.specs.Records.{reader_phase, reader_of, reader_words, writer_phase, flag_of, flag_word, serializer_in, serializer_of, serializer_words}

-- a number that no phase has
pub no_reader_phase : (n : ℕ) → ((f : readings.Phase) → phase_number f ≡ n → ⊥) → reader_phase n ≡ None
no_reader_phase zero h = absurd (h reading.Beginning refl)
no_reader_phase (suc zero) h = absurd (h reading.Parsing refl)
no_reader_phase (suc (suc zero)) h = absurd (h reading.Finishing refl)
no_reader_phase (suc (suc (suc n))) h = refl

pub no_writer_phase : (n : ℕ) → 3 < n → writer_phase n ≡ None
no_writer_phase zero h = absurd (omega arith)
no_writer_phase (suc zero) h = absurd (omega arith)
no_writer_phase (suc (suc zero)) h = absurd (omega arith)
no_writer_phase (suc (suc (suc zero))) h = absurd (omega arith)
no_writer_phase (suc (suc (suc (suc n)))) h = refl

-- ---- a record's words mean it
pub reader_kept : (r : Reader) → reader_of (reader_words r) ≡ Some r
unfolding reader_of
reader_kept r = ap (option_map (λ (phase : readings.Phase). reader r.position phase r.lists)) (go r.phase)
  where
    go : (f : readings.Phase) → reader_phase (phase_number f) ≡ Some f
    go reading.Beginning = refl
    go reading.Parsing = refl
    go reading.Finishing = refl

pub writer_kept : (w : Serializer) → serializer_of (serializer_words w) ≡ Some w
unfolding serializer_of
writer_kept w = rw (phase w.phase, flag w.list_beginning) refl
  where
    phase : (f : writings.Phase) → writer_phase (phase_word f) ≡ Some f
    phase writing.Beginning = refl
    phase writing.Writing = refl
    phase writing.Finished = refl
    phase writing.Done = refl

    flag : (b : Bool) → flag_of (flag_word b) ≡ Some b
    flag true = refl
    flag false = refl

-- words all 0 mean a fresh record
pub fresh_reader_words : reader_words fresh_reader ≡ 0 ∷ 0 ∷ 0 ∷ []
fresh_reader_words = refl

pub fresh_writer_words : serializer_words fresh_serializer ≡ 0 ∷ 0 ∷ 0 ∷ 0 ∷ 0 ∷ 0 ∷ 0 ∷ 0 ∷ 0 ∷ []
unfolding fresh_serializer
fresh_writer_words = refl

-- ---- words that mean a record are the record's

the_same : {A : Type 0} {a b : A} → Some a ≡ Some b → a ≡ b
the_same e = cc

none_some : {A B : Type 0} {a : A} → ◌≡◌ {A = Option A} None (Some a) → B
none_some e = absurd (cc)

-- n words from the k-th on, one by one
abbrev spelled : ℕ → ℕ → List ℕ → List ℕ
spelled k zero ws = []
spelled k (suc n) ws = get_or ws k 0 ∷ spelled (suc k) n ws

spelled_later : (k n x : ℕ) (ws : List ℕ) → spelled (suc k) n (x ∷ ws) ≡ spelled k n ws
spelled_later k zero x ws = refl
spelled_later k (suc n) x ws = ap (λ (l : List ℕ). get_or ws k 0 ∷ l) (spelled_later (suc k) n x ws)

spelled_all : (ws : List ℕ) → spelled 0 (length ws) ws ≡ ws
spelled_all [] = refl
spelled_all (x ∷ ws) = ap (λ (l : List ℕ). x ∷ l) (spelled_later 0 (length ws) x ws ∙ spelled_all ws)

spelled_by : {n : ℕ} (ws : List ℕ) → length ws ≡ n → spelled 0 n ws ≡ ws
spelled_by ws e = ap (λ (n : ℕ). spelled 0 n ws) (sym e) ∙ spelled_all ws

reader_word : (n : ℕ) {f : readings.Phase} → reader_phase n ≡ Some f → phase_number f ≡ n
reader_word zero e = ap phase_number (the_same (sym e))
reader_word (suc zero) e = ap phase_number (the_same (sym e))
reader_word (suc (suc zero)) e = ap phase_number (the_same (sym e))
reader_word (suc (suc (suc n))) e = none_some e

writer_word : (n : ℕ) {f : writings.Phase} → writer_phase n ≡ Some f → phase_word f ≡ n
writer_word zero e = ap phase_word (the_same (sym e))
writer_word (suc zero) e = ap phase_word (the_same (sym e))
writer_word (suc (suc zero)) e = ap phase_word (the_same (sym e))
writer_word (suc (suc (suc zero))) e = ap phase_word (the_same (sym e))
writer_word (suc (suc (suc (suc n)))) e = none_some e

flag_word_lem : (n : ℕ) {b : Bool} → flag_of n ≡ Some b → flag_word b ≡ n
flag_word_lem zero e = ap flag_word (the_same (sym e))
flag_word_lem (suc zero) e = ap flag_word (the_same (sym e))
flag_word_lem (suc (suc n)) e = none_some e

pub reader_words_lem : (ws : List ℕ) → length ws ≡ 3 → {r : Reader} → reader_of ws ≡ Some r → reader_words r ≡ ws
unfolding reader_of
reader_words_lem ws n {r} h = go (reader_phase (get_or ws 1 0)) refl h ∙ spelled_by ws n
  where
    go : (f : Option readings.Phase) → reader_phase (get_or ws 1 0) ≡ f → option_map (λ (phase : readings.Phase). reader (get_or ws 0 0) phase (get_or ws 2 0)) f ≡ Some r
        → reader_words r ≡ spelled 0 3 ws
    go None e d = none_some d
    go (Some f) e d = ap reader_words (the_same (sym d)) ∙ ap (λ (k : ℕ). get_or ws 0 0 ∷ k ∷ get_or ws 2 0 ∷ []) (reader_word _ e)

pub writer_words : (ws : List ℕ) → length ws ≡ 9 → {w : Serializer} → serializer_of ws ≡ Some w → serializer_words w ≡ ws
unfolding serializer_of
writer_words ws n {w} h = go (writer_phase (get_or ws 1 0)) (flag_of (get_or ws 4 0)) refl refl h ∙ spelled_by ws n
  where
    with : ℕ → ℕ → List ℕ
    with f b = get_or ws 0 0 ∷ f ∷ get_or ws 2 0 ∷ get_or ws 3 0 ∷ b ∷ get_or ws 5 0 ∷ get_or ws 6 0 ∷ get_or ws 7 0 ∷ get_or ws 8 0 ∷ []

    go : (f : Option writings.Phase) (b : Option Bool) → writer_phase (get_or ws 1 0) ≡ f → flag_of (get_or ws 4 0) ≡ b → serializer_in ws f b ≡ Some w
        → serializer_words w ≡ spelled 0 9 ws
    go None b e d z = none_some z
    go (Some f) None e d z = none_some z
    go (Some f) (Some b) e d z =
        ap serializer_words (the_same (sym z))
        ∙ ap (λ (k : ℕ). with k (flag_word b)) (writer_word _ e)
        ∙ ap (λ (k : ℕ). with (get_or ws 1 0) k) (flag_word_lem _ d)
