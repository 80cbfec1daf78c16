-- Reading on from a record, an item at a time: who follows the items one by one reads them in any number of calls.
-- Assumes nothing.
use Prim.Native.Nat.{ℕ, zero, suc, ◌-◌, ◌≤◌, ◌<◌}
use native.Mathlib.Omega.{arith}
use mathlib.Core.Path.{◌≡◌, refl, sym, ap, ◌∙◌}
use mathlib.Core.List.{List, [], ◌∷◌, ◌++◌, map}
use lib.ListN.{length, take, replicate}
use Rattle.sise_parser.specs.Refusals.{refusal}
use Rattle.sise_parser.specs.Reader.{Answer, Next, answers_from, fresh_reader, next, next_item, refused_with, finish_reading, ended, not_ended, after_calls}
use Rattle.sise_parser.specs.declared.reader.Reader.{Reader}
use Rattle.sise_serializer.specs.Calls.{Placed}
use Rattle.sise_layout.specs.Reading.{as_read, Stands, All, none, more, Gives}

-- from r on, reading the text gives exactly these items, and then the end
pub data Follows (text : List ℕ) : Reader → List Placed → Type 0 where
  over : {r : Reader} → next_item text r ≡ next r (refused_with 9) → finish_reading text r ≡ ended → Follows text r []
  goes : {r r' : Reader} {i : Placed} {is : List Placed} → next_item text r ≡ next r' (as_read i) → finish_reading text r ≡ not_ended (refusal 10 0 0)
      → Stands text i → Follows text r' is → Follows text r (i ∷ is)

module _ (text : List ℕ) where
  -- the record after k calls, the first of them first
  abbrev reader_from : Reader → ℕ → Reader
  reader_from r zero = r
  reader_from r (suc k) = reader_from (next_item text r).reader k

  last-call : (r : Reader) (k : ℕ) → reader_from r (suc k) ≡ (next_item text (reader_from r k)).reader
  last-call r zero = refl
  last-call r (suc k) = last-call (next_item text r).reader k

  after_calls_lem : (k : ℕ) → after_calls text k ≡ reader_from fresh_reader k
  unfolding after_calls
  after_calls_lem zero = refl
  after_calls_lem (suc k) = ap (λ (r : Reader). (next_item text r).reader) (after_calls_lem k) ∙ sym (last-call fresh_reader k)

  stays : (r : Reader) (a : Answer) → next_item text r ≡ next r a → (k : ℕ) → reader_from r k ≡ r
  stays r a e zero = refl
  stays r a e (suc k) = ap (λ (n : Next). reader_from n.reader k) e ∙ stays r a e k

  stays_answers : (r : Reader) (a : Answer) → next_item text r ≡ next r a → (k : ℕ) → answers_from text r k ≡ replicate k a
  unfolding answers_from
  stays_answers r a e zero = refl
  stays_answers r a e (suc k) = rw e (ap (λ (l : List Answer). a ∷ l) (stays_answers r a e k))

  follows_answers : {r : Reader} {is : List Placed} → Follows text r is → (k : ℕ)
      → answers_from text r k ≡ take k (map as_read is) ++ replicate (k - length is) (refused_with 9)
  unfolding answers_from
  follows_answers (over n f) zero = refl
  follows_answers {r} (over n f) (suc k) =
      let z : suc k ≡ suc k - 0 = omega arith in
      stays_answers r (refused_with 9) n (suc k) ∙ ap (λ (m : ℕ). replicate m (refused_with 9)) z
  follows_answers (goes {is = is} n f s t) zero = let z : 0 ≡ 0 - suc (length is) = omega arith in ap (λ (m : ℕ). replicate m (refused_with 9)) z
  follows_answers (goes {i = i} {is = is} n f s t) (suc k) =
      let z : k - length is ≡ suc k - suc (length is) = omega arith in
      rw n (ap (λ (l : List Answer). as_read i ∷ l) (follows_answers t k ∙ ap (λ (m : ℕ). take k (map as_read is) ++ replicate m (refused_with 9)) z))

  follows_bytes : {r : Reader} {is : List Placed} → Follows text r is → All (Stands text) is
  follows_bytes (over n f) = none
  follows_bytes (goes n f s t) = more s (follows_bytes t)

  follows_early : {r : Reader} {is : List Placed} → Follows text r is → (k : ℕ) → k < length is → finish_reading text (reader_from r k) ≡ not_ended (refusal 10 0 0)
  follows_early (over n f) k h = absurd (omega arith)
  follows_early (goes n f s t) zero h = f
  follows_early (goes n f s t) (suc k) h = ap (λ (m : Next). finish_reading text (reader_from m.reader k)) n ∙ follows_early t k (omega arith)

  follows_end : {r : Reader} {is : List Placed} → Follows text r is → (k : ℕ) → length is ≤ k → finish_reading text (reader_from r k) ≡ ended
  follows_end {r} (over n f) k h = rw (stays r (refused_with 9) n k) f
  follows_end (goes n f s t) zero h = absurd (omega arith)
  follows_end (goes n f s t) (suc k) h = ap (λ (m : Next). finish_reading text (reader_from m.reader k)) n ∙ follows_end t k (omega arith)

  pub follows_gives : {is : List Placed} → Follows text fresh_reader is → Gives text is
  follows_gives t = record {
    answers = follows_answers t;
    bytes = follows_bytes t;
    early = λ k h. ap (finish_reading text) (after_calls_lem k) ∙ follows_early t k h;
    finished = λ k h. ap (finish_reading text) (after_calls_lem k) ∙ follows_end t k h;
  }
