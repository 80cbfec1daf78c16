-- Calls as a program makes them, one by one, and a writing made so (demand 3: "A writing is any list of the calls put_atom, begin_list, end_list and finish,
-- refused ones among them, that starts from a fresh writer and in which a finish is accepted").
-- Assumes nothing.
use Rattle.std.specs.Prelude.{ℕ, ◌≡◌, Bool, List, [], ◌∷◌, ◌++◌}
use Rattle.sise_serializer.specs.Serializer.{Style, Answer, accepted, answer_as}
use Rattle.sise_serializer.specs.declared.serializer.Serializer.{Serializer}
use Rattle.sise_serializer.specs.declared.serializer.WriteError.{WriteError}
use Rattle.sise_serializer.specs.declared.serializer.Wrote.{Wrote}
use Rattle.sise_serializer.specs.Calls.{Call, finish_call, Does, Placed, item_of}

-- the calls cs, from the record w and the buffer b on, left the record v and the buffer b'' and got the answers l. `Does` is the contract of each of
-- the four calls; "each later one" gets "the record that the last returned or, refused, left"
pub data Made (s : Style) : Serializer → List ℕ → List Call → Serializer → List ℕ → List Answer → Type 0 where
  none : {w : Serializer} {b : List ℕ} → Made s w b [] w b []
  more : {w v : Serializer} {b b' b'' : List ℕ} {c : Call} {cs : List Call} {r : Wrote WriteError} {l : List Answer}
      → Does c s w b r b' → Made s r.serializer b' cs v b'' l
      → Made s w b (c ∷ cs) v b'' (answer_as r.answer ∷ l)

-- the same, with a finish among the calls that was accepted and returned the record f; b'' is the buffer after all of them
pub data MadeWriting (s : Style) : Serializer → List ℕ → List Call → Serializer → List ℕ → List Answer → Type 0 where
  here : {w v : Serializer} {b b' b'' : List ℕ} {wished : Bool} {o : ℕ} {cs : List Call} {r : Wrote WriteError} {l : List Answer}
      → Does (finish_call wished) s w b r b' → answer_as r.answer ≡ accepted o → Made s r.serializer b' cs v b'' l
      → MadeWriting s w b (finish_call wished ∷ cs) r.serializer b'' (accepted o ∷ l)
  later : {w f : Serializer} {b b' b'' : List ℕ} {c : Call} {cs : List Call} {r : Wrote WriteError} {l : List Answer}
      → Does c s w b r b' → MadeWriting s r.serializer b' cs f b'' l
      → MadeWriting s w b (c ∷ cs) f b'' (answer_as r.answer ∷ l)

-- "Its items are those of its accepted calls", each at the offset that the call answered
unfoldable pub items_by : List Call → List Answer → List Placed
items_by [] l = []
items_by (c ∷ cs) [] = []
items_by (c ∷ cs) (a ∷ l) = item_of c a ++ items_by cs l
