-- What a call reports to a program in another language: its result, and words that the program lent (document 01, "Refusals"; document 02, 2.2).
-- Assumes nothing.
use Rattle.std.specs.Prelude.{ℕ, ◌-◌, ◌≡◌, Bool, cond, List, [], ◌∷◌, length, get_or, set, replicate, Result, MatchResult}
use Rattle.sise_parser.specs.Refusals.{Refusal}
use Rattle.sise_serializer.specs.Serializer.{Style, fresh_serializer}
use Rattle.sise_tree.specs.Answers.{Answer, answered, refused, number_of}
use Rattle.sise_tree.specs.FindPath.{Lookup, found_number, found_values}
use Rattle.sise_tree_writer.specs.SerializeTree.{Writes}
use Rattle.sise_tree_writer.specs.Sizes.{Enquiry, adds, refuses, number_in, enquiry, commit_text}

-- 17: "`check_atom` says no"
abbrev pub checked : Bool → ℕ
checked b = cond b 0 17

-- what is answered, or a refusal's place and code point, 0 where there is none
abbrev pub values_of : Answer → List ℕ
values_of (answered n) = n ∷ 0 ∷ []
values_of (refused e) = e.place ∷ e.code ∷ []

-- the n words of a refusal
abbrev pub refusal_words : ℕ → Refusal → List ℕ
refusal_words n e = set (set (replicate n 0) (n - 2) e.place) (n - 1) e.code

-- the number returned, r, and the two lent words, which end as `now`, are those of the answer a
pub record Reports (a : Answer) (r : ℕ) (now : List ℕ) : Type 0 where
  pub result : r ≡ number_of a
  pub values : now ≡ values_of a

-- a result, whose refusals have these numbers and no place, is reported as the answer a is
abbrev pub Tells : {E : Type 0} → (E → ℕ) → Answer → Result (List ℕ) E → Type 0
Tells number a r = MatchResult r (λ told. Reports a 0 told) (λ e. Reports a (number e) (0 ∷ 0 ∷ []))

-- the same of a lookup that also answers the number of nodes looked at
pub record ReportsFound (a : Lookup) (r : ℕ) (now : List ℕ) : Type 0 where
  pub result : r ≡ found_number a
  pub values : now ≡ found_values a

-- where a writing answers with an offset, its size n is reported
abbrev pub size_or : ℕ → Answer → Answer
size_or n (answered o) = answered n
size_or n (refused e) = refused e

-- the bytes that a tree written from the buffer's start takes
abbrev pub size_of : Writes → Answer
size_of d = size_or d.serializer.position d.answer

-- the three words of an enquiry's answer: "the bytes, breaks and indents", and 0 where it is a refusal
abbrev pub size_words : Enquiry → List ℕ
size_words (adds bytes breaks indents) = bytes ∷ breaks ∷ indents ∷ []
size_words (refuses n) = 0 ∷ 0 ∷ 0 ∷ []

-- the number returned, r, and the three lent words, which end as `now`, are those of the enquiry's answer e
pub record ReportsEnquiry (e : Enquiry) (r : ℕ) (now : List ℕ) : Type 0 where
  pub result : r ≡ number_in e
  pub size : now ≡ size_words e

-- those of a whole text, which one call writes as d says, in each buffer of room bytes
abbrev pub ReportsSize : ℕ → (List ℕ → Writes) → ℕ → List ℕ → Type 0
ReportsSize room d r now = (b : List ℕ) → length b ≡ room → ReportsEnquiry (enquiry fresh_serializer (d b)) r now

-- the answer that three words hand over
abbrev pub size_given : List ℕ → Enquiry
size_given l = adds (get_or l 0 0) (get_or l 1 0) (get_or l 2 0)

-- what the commit of a whole text reports, to which the three words `size` are handed over
abbrev pub TellsCommit : Style → List ℕ → List ℕ → List ℕ → ℕ → Bool → List ℕ → ℕ → List ℕ → Type 0
TellsCommit s before text words t wished size r now = Reports (size_of (commit_text s before text words t wished (size_given size))) r now

-- and what it leaves in the buffer
abbrev pub WritesCommit : Style → List ℕ → List ℕ → List ℕ → ℕ → Bool → List ℕ → List ℕ → Type 0
WritesCommit s before text words t wished size now = now ≡ (commit_text s before text words t wished (size_given size)).buffer
