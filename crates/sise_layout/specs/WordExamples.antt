-- Document 01's worked writing as words, by computation: what they mean, and where they end.
-- Assumes nothing.
use Rattle.std.specs.Prelude.{ℕ, ◌^◌, ◌-◌, ◌≡◌, refl, List, [], ◌∷◌, ◌++◌, take}
use Rattle.sise_parser.specs.Reader.{part_of}
use Rattle.sise_serializer.specs.Serializer.{accepted, refused}
use Rattle.sise_serializer.specs.Calls.{put_atom_call}
use Rattle.sise_serializer.specs.Words.{call_of, decoded, calls_of, answer_word}
use Rattle.sise_layout.specs.Examples.{worked}

-- `z12 22`
abbrev atoms : List ℕ
atoms = 122 ∷ 49 ∷ 50 ∷ 32 ∷ 50 ∷ 50 ∷ []

abbrev words : List ℕ
words =
    1 ∷ 0 ∷ 0 ∷ 0
    ∷ 0 ∷ 0 ∷ 1 ∷ (2 ^ 64 - 1)
    ∷ 1 ∷ 0 ∷ 0 ∷ 0
    ∷ 0 ∷ 1 ∷ 1 ∷ (2 ^ 64 - 1)
    ∷ 0 ∷ 2 ∷ 2 ∷ 0
    ∷ 0 ∷ 4 ∷ 2 ∷ 4
    ∷ 2 ∷ 0 ∷ 0 ∷ 0
    ∷ 2 ∷ 0 ∷ 0 ∷ 0
    ∷ 4 ∷ 0 ∷ 0 ∷ 0
    ∷ []

means_worked : decoded words atoms ≡ worked 4
unfolding decoded call_of part_of worked
means_worked = refl

-- a kind above 4 ends them, and so does a rest of three words
ends_at_kind : decoded (words ++ (5 ∷ 0 ∷ 0 ∷ 0 ∷ words)) atoms ≡ worked 4
unfolding decoded call_of part_of worked
ends_at_kind = refl

ends_at_rest : decoded (words ++ (2 ∷ 0 ∷ 0 ∷ [])) atoms ≡ worked 4
unfolding decoded call_of part_of worked
ends_at_rest = refl

-- room for three answers, three calls
three_answers : calls_of words atoms 3 ≡ take 3 (worked 4)
unfolding decoded call_of part_of worked
three_answers = refl

-- a part that lies outside is empty
outside : decoded (0 ∷ 5 ∷ 2 ∷ 7 ∷ []) atoms ≡ put_atom_call [] 7 ∷ []
unfolding decoded call_of part_of
outside = refl

at_seven : answer_word (accepted 7) ≡ 7
at_seven = refl

no_room : answer_word (refused 22) ≡ 4294967318
no_room = refl
