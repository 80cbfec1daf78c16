-- What it means that a call is planned: the record behind it and where its bytes go are known, with none written.
-- Assumes nothing.
use Rattle.std.specs.Prelude.{ℕ, ◌≡◌, ◌+◌, ◌≤◌, min, Bool, List, [], ◌∷◌, ◌++◌, length, Result, MatchResult}
use Rattle.sise_serializer.specs.Serializer.{Style, limit, Answer, Written, refuse, error_number, new_line_of, Piece, place}
use Rattle.sise_serializer.specs.Calls.{Call, step}
use Rattle.sise_serializer.specs.Parts.{item_in}
use Rattle.sise_serializer.specs.declared.plan.Layout.{Layout}
use Rattle.sise_serializer.specs.declared.plan.Layout.TheVariants.{Nothing, Space, Line}
use Rattle.sise_serializer.specs.declared.plan.Planned.{Planned}
use Rattle.sise_serializer.specs.declared.serializer.Serializer.{Serializer}
use Rattle.sise_serializer.specs.declared.serializer.WriteError.{WriteError}

-- a layout's bytes
abbrev pub layout_bytes : Style → Layout → List ℕ
layout_bytes s Nothing = []
layout_bytes s Space = 32 ∷ []
layout_bytes s (Line times) = new_line_of s times

-- p is the plan of d, a call behind the record w that puts `token`, and has room
pub record Fits (s : Style) (room : ℕ) (w : Serializer) (token : List ℕ) (d : Written) (p : Planned) : Type 0 where
  pub done : d ≡ record { serializer = p.placed.serializer; answer = Answer.accepted p.placed.offset; bytes = layout_bytes s p.layout ++ token }
  pub offset : p.placed.offset ≡ w.position + length (layout_bytes s p.layout)
  pub in_room : p.placed.offset + length token ≤ min room limit

-- r is the plan of d, or its refusal
abbrev pub PlansAs : Style → ℕ → Serializer → List ℕ → Written → Result Planned WriteError → Type 0
PlansAs s room w token d r = MatchResult r (Fits s room w token d) (λ e. d ≡ refuse (error_number e) w)

-- r is the plan of the call c that puts `token`
abbrev pub PlansCall : Style → ℕ → Serializer → List ℕ → Call → Result Planned WriteError → Type 0
PlansCall s room w token c r = PlansAs s room w token (step s room w c) r

-- r is the plan of what the piece p adds, whose token is `token`
abbrev pub PlansPiece : Style → ℕ → Serializer → List ℕ → Piece → Result Planned WriteError → Type 0
PlansPiece s room w token p r = PlansAs s room w token (place room w p) r

-- r is the plan of any token of n bytes
abbrev pub PlansToken : Style → ℕ → Serializer → ℕ → (List ℕ → Written) → Result Planned WriteError → Type 0
PlansToken s room w n d r = (token : List ℕ) → length token ≡ n → PlansAs s room w token (d token) r

-- r is the plan of the piece p of any token of n bytes
abbrev pub PlansPieces : Style → ℕ → Serializer → ℕ → (List ℕ → Piece) → Result Planned WriteError → Type 0
PlansPieces s room w n p r = PlansToken s room w n (λ token. place room w (p token)) r

-- r is the plan of an item, at the threshold t
abbrev pub PlansItem : Style → ℕ → Serializer → ℕ → Bool → ℕ → Result Planned WriteError → Type 0
PlansItem s room w n isList t r = PlansToken s room w n (λ token. item_in w.phase s room w token isList t) r
