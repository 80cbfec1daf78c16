-- What it means that a call is planned: the record behind it is that of the call, if it is accepted, and nothing is written; and that a call which is known to
-- fit is made: its record and its bytes are those of the call.
-- Assumes nothing.
use Rattle.std.specs.Prelude.{ℕ, ◌+◌, ◌≤◌, ◌≡◌, Bool, true, false, cond, List, ◌++◌, length, Result, Ok, Err, MatchResult}
use Rattle.sise_serializer.specs.Bytes.{pasted}
use Rattle.sise_serializer.specs.Serializer.{limit, Style, Answer, Written, Piece}
use Rattle.sise_serializer.specs.Calls.{Call, put_atom_call, begin_list_call, is_accepted, step}
use Rattle.sise_serializer.specs.Parts.{item_in}
use Rattle.sise_serializer.specs.declared.plan.Planned.{Planned}
use Rattle.sise_serializer.specs.declared.serializer.Serializer.{Serializer}
use Rattle.sise_serializer.specs.declared.serializer.WriteError.{WriteError}
use Rattle.sise_tree_writer.specs.declared.serialize.WriteTreeError.{WriteTreeError}
use Rattle.sise_tree_writer.specs.declared.serialize.WriteTreeError.TheVariants.{NoRoom}

-- r is the record behind d, or d is a refusal, for which a tree is refused with 22
abbrev pub RecordOf : Written → Result Serializer WriteTreeError → Type 0
RecordOf d r = MatchResult r (λ v. (v ≡ d.serializer) × (is_accepted d.answer ≡ true)) (λ e. (e ≡ NoRoom) × (is_accepted d.answer ≡ false))

-- that of a call in a buffer of room bytes
abbrev pub Plans : Call → Style → ℕ → Serializer → Result Serializer WriteTreeError → Type 0
Plans c s room w r = RecordOf (step s room w c) r

-- the record behind a call that was planned, if it has room
abbrev pub behind_of : Result Planned WriteError → Result Serializer WriteTreeError
behind_of (Ok p) = Ok p.placed.serializer
behind_of (Err e) = Err NoRoom

-- begin_list, or put_atom of the atom a
unfoldable pub item_call : List ℕ → Bool → ℕ → Call
item_call a isList t = cond isList (begin_list_call t) (put_atom_call a t)

-- a piece has room behind the record w, and the text stays within 01's limit
pub record Room (w : Serializer) (p : Piece) (buffer : List ℕ) : Type 0 where
  pub inside : w.position + length p.layout + length p.token ≤ length buffer
  pub within : w.position + length p.layout + length p.token ≤ limit

-- it is written, and the record behind it handed back
pub record WritesPiece (w : Serializer) (p : Piece) (before : List ℕ) (r : Serializer) (now : List ℕ) : Type 0 where
  pub serializer : r ≡ p.after
  pub buffer : now ≡ pasted before w.position (p.layout ++ p.token)

-- d is no refusal
abbrev pub Accepts : Written → Type 0
Accepts d = (o : ℕ) × (d.answer ≡ Answer.accepted o)

-- it is done: its record, and its bytes
pub record Leaves (d : Written) (w : Serializer) (before : List ℕ) (r : Serializer) (now : List ℕ) : Type 0 where
  pub serializer : r ≡ d.serializer
  pub buffer : now ≡ pasted before w.position d.bytes

-- so for an item, by its token and whether it begins a list
abbrev pub CanPut : Style → Serializer → List ℕ → Bool → ℕ → List ℕ → Type 0
CanPut s w token isList t buffer = Accepts (item_in w.phase s (length buffer) w token isList t)

abbrev pub Puts : Style → Serializer → List ℕ → Bool → ℕ → List ℕ → Serializer → List ℕ → Type 0
Puts s w token isList t before r now = Leaves (item_in w.phase s (length before) w token isList t) w before r now

-- and for a call
abbrev pub CanMake : Call → Style → Serializer → List ℕ → Type 0
CanMake c s w buffer = Accepts (step s (length buffer) w c)

abbrev pub Makes : Call → Style → Serializer → List ℕ → Serializer → List ℕ → Type 0
Makes c s w before r now = Leaves (step s (length before) w c) w before r now

-- an item at the threshold t that is accepted behind the record w, in a buffer of room bytes, has the offset r
abbrev pub Starts : Style → ℕ → Serializer → ℕ → ℕ → Type 0
Starts s room w t r = (a : List ℕ) (isList : Bool) (o : ℕ) → (step s room w (item_call a isList t)).answer ≡ Answer.accepted o → r ≡ o
