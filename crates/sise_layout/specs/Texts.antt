-- What demand 3 asks of lists of calls and says of their texts (document 01, "serializer.rs: the writer": "Demand 3 speaks of lists of the calls ...").
-- Assumes nothing.
use Rattle.std.specs.Prelude.{ℕ, ◌+◌, ◌<◌, ◌≡◌, Bool, true, ◌&&◌, not, cond, List, [], ◌∷◌, ◌++◌, map, eqb, length, take}
use Rattle.sise_util.specs.Chars.{one_of}
use Rattle.sise_util.specs.Atom.{is_atom}
use Rattle.sise_serializer.specs.Bytes.{pasted}
use Rattle.sise_serializer.specs.Serializer.{Style, Answer, accepted, refused, Written, fresh_serializer}
use Rattle.sise_serializer.specs.Calls.{Call, put_atom_call, begin_list_call, end_list_call, finish_call, step, is_accepted, Item, atom, list_start, list_end, Run, run, writing}
use Rattle.sise_serializer.specs.declared.serializer.Serializer.{Serializer}

-- "a `finish` is accepted": one of the calls, by its answer
pub data FinishAccepted : List Call → List Answer → Type 0 where
  here : {wished : Bool} {o : ℕ} {cs : List Call} {l : List Answer} → FinishAccepted (finish_call wished ∷ cs) (accepted o ∷ l)
  later : {c : Call} {a : Answer} {cs : List Call} {l : List Answer} → FinishAccepted cs l → FinishAccepted (c ∷ cs) (a ∷ l)

abbrev pub Finishes : Style → List ℕ → List Call → Type 0
Finishes s buffer cs = FinishAccepted cs (writing s buffer cs).answers

-- "the buffer's part up to the position that the accepted `finish` returned"
abbrev pub text_of : Run → List ℕ
text_of r = take r.last.position r.buffer

-- the refusal of a call after an accepted finish: 19, "added: any call after an accepted finish"; for put_atom 17 comes before it
unfoldable pub late_number : Call → ℕ
late_number (put_atom_call a t) = cond (is_atom a) 19 17
late_number (begin_list_call t) = 19
late_number end_list_call = 19
late_number (finish_call wished) = 19

-- the accepted finish among the calls cs, which begin with the record w and the buffer `first`: the calls before and after it, what it came to, and what all of
-- them leave. "The text is the buffer's part up to the position that the accepted `finish` returned", and "The three counts are those in the record returned"
pub record EndsAt (s : Style) (first : List ℕ) (w : Serializer) (cs : List Call) : Type 0 where
  pub before : List Call
  pub wished : Bool
  pub after : List Call
  pub calls : cs ≡ before ++ finish_call wished ∷ after
  pub finish : Written
  pub is_finish : finish ≡ step s (length (run s first w before).buffer) (run s first w before).last (finish_call wished)
  pub is_accepted_lem : is_accepted finish.answer ≡ true
  -- later calls change neither record nor buffer, and are no items
  pub last : (run s first w cs).last ≡ finish.serializer
  pub buffer : (run s first w cs).buffer ≡ pasted (run s first w before).buffer (run s first w before).last.position finish.bytes
  pub items : (run s first w cs).items ≡ (run s first w before).items
  pub answers : (run s first w cs).answers ≡ (run s first w before).answers ++ finish.answer ∷ map (λ (c : Call). refused (late_number c)) after

-- demand 3: "its own style, with line_break not empty and both style strings made only of space, tab, CR and LF"
abbrev pub is_blank : ℕ → Bool
is_blank b = one_of (32 ∷ 9 ∷ 13 ∷ 10 ∷ []) b

abbrev pub all_blank : List ℕ → Bool
all_blank [] = true
all_blank (b ∷ l) = is_blank b && all_blank l

pub record Blank (s : Style) : Type 0 where
  pub not_empty : 0 < length s.line_break
  pub line_break : all_blank s.line_break ≡ true
  pub indentation : all_blank s.indentation ≡ true

-- "Atom bytes are the sum of the atoms' lengths, lists the number of list starts among the items"
unfoldable pub atom_bytes : List Item → ℕ
atom_bytes [] = 0
atom_bytes (atom a ∷ is) = length a + atom_bytes is
atom_bytes (list_start ∷ is) = atom_bytes is
atom_bytes (list_end ∷ is) = atom_bytes is

unfoldable pub lists : List Item → ℕ
lists [] = 0
lists (atom a ∷ is) = lists is
lists (list_start ∷ is) = 1 + lists is
lists (list_end ∷ is) = lists is

-- "the reachable records": a fresh one, and what a call leaves of one, with any style and a buffer of any length
pub data Reachable : Serializer → Type 0 where
  fresh : Reachable fresh_serializer
  after : {w : Serializer} → Reachable w → (s : Style) (room : ℕ) (c : Call) → Reachable (step s room w c).serializer

-- a call with a style and a buffer, of room bytes, of its own
pub record Styled : Type 0 where
  pub style : Style
  pub room : ℕ
  pub call : Call

-- the answers to such calls
unfoldable pub answers_of : Serializer → List Styled → List Answer
answers_of w [] = []
answers_of w (c ∷ cs) = (step c.style c.room w c.call).answer ∷ answers_of (step c.style c.room w c.call).serializer cs

unfoldable pub is_not11 : Answer → Bool
is_not11 (accepted o) = true
is_not11 (refused n) = not (eqb n 11)
