-- What a refused call of next_item says of the text, and what it leaves (document 01, "Refusals").
-- Assumes nothing.
use Rattle.std.specs.Prelude.{ℕ, ◌+◌, ◌≤◌, ◌<◌, ◌≡◌, List, length, take, drop, get_or}
use Rattle.sise_util.specs.Utf8.{Utf8Char, Subpart, well, character}
use Rattle.sise_parser.specs.Refusals.{Refusal, refusal}
use Rattle.sise_parser.specs.declared.reader.Reader.{Reader}

-- a refusal of the text, and the position after it: "A refused reader call moves its position"
pub data Refuses (text : List ℕ) : Refusal → ℕ → Type 0 where
  -- "1 to 3, after the character", whose code point it names
  wrong_chr : {n p c k : ℕ} → 1 ≤ n → n ≤ 3 → character (drop p text) ≡ well c k → Refuses text (refusal n p c) (p + k)
  -- "4 and 5, to the end", and the "place is the text's length"
  unfinished : Refuses text (refusal 4 (length text) 0) (length text)
  unexpected_eof : Refuses text (refusal 5 (length text) 0) (length text)
  -- "6 ..., after the `)`"
  unexpected_paren : {p : ℕ} → get_or text p 0 ≡ 41 → Refuses text (refusal 6 p 0) (p + 1)
  -- 8: no prefix of the rest is a character by RFC 3629, and "the position now passes the longest start of a well-formed character found there, at
  -- least one byte" (02, 2.7)
  ill_formed : {p k : ℕ} → ((j : ℕ) → Utf8Char (take j (drop p text)) → ⊥) → Subpart (drop p text) k → Refuses text (refusal 8 p 0) (p + k)

-- the record q after a call with the record r that was refused with e
pub record Leaves (text : List ℕ) (r : Reader) (e : Refusal) (q : Reader) : Type 0 where
  -- "Phase and open lists stay"
  pub phase : q.phase ≡ r.phase
  pub lists : q.lists ≡ r.lists
  pub position : e.number ≤ 8 → Refuses text e q.position
  -- "9 to 11 move nothing"
  pub nothing : 8 < e.number → q ≡ r
