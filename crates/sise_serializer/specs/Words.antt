-- Lists of the writer's calls as numbers: four words a call, and a word for each answer (document 01, "serializer.rs: the writer").
-- Assumes nothing.
use Rattle.std.specs.Prelude.{ℕ, ◌+◌, ◌^◌, ◌≡◌, true, false, cond, List, [], ◌∷◌, map, eqb, leb, length, get_or, take, drop, Option, MatchOption}
use Rattle.std.specs.Borrow.{Bor}
use Rattle.sise_parser.specs.Reader.{part_of}
use Rattle.sise_serializer.specs.Bytes.{pasted}
use Rattle.sise_serializer.specs.Serializer.{Style, Answer, accepted, refused, is_sound}
use Rattle.sise_serializer.specs.declared.calls.Call as code
use Rattle.sise_serializer.specs.declared.calls.Call.TheVariants.{PutAtom, BeginList, EndList, Finish}
use Rattle.sise_serializer.specs.declared.calls.Ran.{Ran}
use Rattle.sise_serializer.specs.declared.serializer.Serializer.{Serializer}
use Rattle.sise_serializer.specs.Calls.{Call, put_atom_call, begin_list_call, end_list_call, finish_call, run, writing}

-- the call that four words mean, by its kind: 0 puts the atom that is that part of `atoms`, at the threshold t (a part outside is empty, and so refused
-- with 17); 1 begins a list at the threshold t; 2 ends a list; 3 finishes without, 4 with a final break
unfoldable pub call_of : List ℕ → ℕ → ℕ → ℕ → ℕ → Call
call_of atoms kind place n t =
    cond (eqb kind 0) (put_atom_call (part_of atoms place n) t)
    (cond (eqb kind 1) (begin_list_call t)
    (cond (eqb kind 2) end_list_call
    (cond (eqb kind 3) (finish_call false)
    (finish_call true))))

-- the call whose four words stand at `at`
abbrev pub call_at : List ℕ → List ℕ → ℕ → Call
call_at words atoms at = call_of atoms (get_or words at 0) (get_or words (at + 1) 0) (get_or words (at + 2) 0) (get_or words (at + 3) 0)

-- a call of the code
abbrev pub call_as : code.Call → Call
call_as (PutAtom atom t) = put_atom_call atom.now t
call_as (BeginList t) = begin_list_call t
call_as EndList = end_list_call
call_as (Finish wished) = finish_call wished

-- r is the call that four words mean, if the kind is one
abbrev pub Decodes : List ℕ → ℕ → ℕ → ℕ → ℕ → Option code.Call → Type 0
Decodes atoms kind place n t r = MatchOption r (leb kind 4 ≡ false) (λ c. (leb kind 4 ≡ true) × (call_as c ≡ call_of atoms kind place n t))

-- the calls that the words mean: kind, place, length and threshold of each, up to the first kind above 4, or to a rest of fewer than four words
unfoldable pub decoded : List ℕ → List ℕ → List Call
decoded (kind ∷ place ∷ n ∷ t ∷ words) atoms = cond (leb kind 4) (call_of atoms kind place n t ∷ decoded words atoms) []
decoded (kind ∷ place ∷ n ∷ []) atoms = []
decoded (kind ∷ place ∷ []) atoms = []
decoded (kind ∷ []) atoms = []
decoded [] atoms = []

-- r is the first of them, which is the call whose four words stand in front, and the words behind those
abbrev pub ReadsCall : List ℕ → List ℕ → Option (code.Call × Bor (List ℕ)) → Type 0
ReadsCall words atoms r = MatchOption r (decoded words atoms ≡ []) (λ p. (decoded words atoms ≡ call_as p.0 ∷ decoded p.1.now atoms) × (p.1.now ≡ drop 4 words) × (call_as p.0 ≡ call_at words atoms 0))

-- as many of them as there is room for answers
abbrev pub calls_of : List ℕ → List ℕ → ℕ → List Call
calls_of words atoms room = take room (decoded words atoms)

-- those that run from the record w: none if it is unsound
abbrev pub calls_from : Serializer → List ℕ → List ℕ → ℕ → List Call
calls_from w words atoms room = cond (is_sound w) (calls_of words atoms room) []

-- an answer's word: the offset, which is at most 16,777,216, or 2 ^ 32 and the refusal's number
abbrev pub answer_word : Answer → ℕ
answer_word (accepted o) = o
answer_word (refused n) = 2 ^ 32 + n

-- what running the calls that the words mean promises, with the style s, the buffer b and the words `before` for answers: it ends with the record and the
-- number of calls in r, the buffer `bytes` and the words `now`
pub record Runs (s : Style) (words atoms b before : List ℕ) (r : Ran) (bytes now : List ℕ) : Type 0 where
  pub serializer : r.serializer ≡ (writing s b (calls_of words atoms (length before))).last
  pub calls : r.calls ≡ length (calls_of words atoms (length before))
  pub buffer : bytes ≡ (writing s b (calls_of words atoms (length before))).buffer
  pub answers : now ≡ pasted before 0 (map answer_word (writing s b (calls_of words atoms (length before))).answers)

-- the same from any record w
pub record RunsFrom (w : Serializer) (s : Style) (words atoms b before : List ℕ) (r : Ran) (bytes now : List ℕ) : Type 0 where
  pub serializer : r.serializer ≡ (run s b w (calls_from w words atoms (length before))).last
  pub calls : r.calls ≡ length (calls_from w words atoms (length before))
  pub buffer : bytes ≡ (run s b w (calls_from w words atoms (length before))).buffer
  pub answers : now ≡ pasted before 0 (map answer_word (run s b w (calls_from w words atoms (length before))).answers)

-- the first of a call that hands back of the record only its position n, which is how many bytes of the buffer are written
pub record WritesCalls (s : Style) (words atoms b before : List ℕ) (n : ℕ) (bytes now : List ℕ) : Type 0 where
  pub size : n ≡ (writing s b (calls_of words atoms (length before))).last.position
  pub buffer : bytes ≡ (writing s b (calls_of words atoms (length before))).buffer
  pub answers : now ≡ pasted before 0 (map answer_word (writing s b (calls_of words atoms (length before))).answers)
