-- The definition of a character, octet by octet over a text: the steps that the code makes.
-- Assumes nothing.
use mathlib.Core.Path.{◌≡◌, refl, sym, ap, ◌∙◌}
use mathlib.Core.Bool.{true, false}
use mathlib.Core.List.{List, [], ◌∷◌}
use Prim.Native.Nat.{ℕ, zero, suc, ◌+◌, ◌-◌, ◌*◌, ◌≤◌, ◌<◌}
use native.Mathlib.Omega.{arith}
use lib.Dec.{leb, ltb}
use lib.ListN.{length, take, drop, get_or, drop_of_length-le}
use borrow.Author.Tests.{le-leb, leb-true, ltb-true, ltb-false}
use Rattle.std.specs.Prelude.{Result}
use Rattle.sise_util.specs.Chars.{within}
use Rattle.sise_util.specs.Utf8.{Range, range, tail, Form, form, forms, well, ill, follow, by_rows, character}
use Rattle.sise_util.specs.declared.utf8.Character.{Character}
use Rattle.sise_util.specs.declared.utf8.IllFormed.{IllFormed}
use Rattle.sise_util.proofs.Lists.{drop-next}
use Rattle.sise_util.proofs.Ranges.{split, and_first, and_second}

pub within_yes : (lo hi b : ℕ) → lo ≤ b → b ≤ hi → within lo hi b ≡ true
unfolding within
within_yes lo hi b h k = rw (le-leb lo b h, le-leb b hi k)

pub within_from : (lo hi b : ℕ) → within lo hi b ≡ true → lo ≤ b
unfolding within
within_from lo hi b e = leb-true lo b (and_first (leb lo b) (leb b hi) e)

pub within_to : (lo hi b : ℕ) → within lo hi b ≡ true → b ≤ hi
unfolding within
within_to lo hi b e = leb-true b hi (and_second (leb lo b) (leb b hi) e)

pub within_no : (lo hi b : ℕ) → (lo ≤ b → b ≤ hi → ⊥) → within lo hi b ≡ false
within_no lo hi b d = split (within lo hi b) (λ e. absurd (d (within_from lo hi b e) (within_to lo hi b e))) (λ e. e)

-- the octet at a place, and the range that is due there
module _ (text : List ℕ) (at lo hi c n : ℕ) (rs : List Range) where
  abbrev octet : ℕ
  octet = get_or text at 0

  -- the octet is in the range: the definition goes on with its bits
  pub hit : at < length text → lo ≤ octet → octet ≤ hi → follow c n (range lo hi ∷ rs) (drop at text) ≡ follow (c * 64 + (octet - 0x80)) n rs (drop (at + 1) text)
  unfolding follow
  hit h from to = ap (follow c n (range lo hi ∷ rs)) (drop-next text at h) ∙ rw (within_yes lo hi octet from to, follow)

  -- it is out of the range, or there is none: the octets before it are the start
  pub miss : (at < length text → lo ≤ octet → octet ≤ hi → ⊥) → ill (n - suc (length rs)) ≡ follow c n (range lo hi ∷ rs) (drop at text)
  unfolding follow
  miss d =
      split (ltb at (length text))
      (λ t. let h = ltb-true at (length text) t in sym (ap (follow c n (range lo hi ∷ rs)) (drop-next text at h) ∙ rw (within_no lo hi octet (d h), follow)))
      (λ t. sym (ap (follow c n (range lo hi ∷ rs)) (drop_of_length-le text (ltb-false at (length text) t))))

-- no octet is due any more
pub ends : (c n : ℕ) (l : List ℕ) → follow c n [] l ≡ well c n
unfolding follow
ends c n l = refl

-- where two UTF8-tail are due, of a character of four: both stand there, or the first alone, or not even that
module _ (l : List ℕ) (c : ℕ) where
  abbrev third : ℕ
  third = get_or l 0 0

  abbrev fourth : ℕ
  fourth = get_or l 1 0

  pub two_tails : (begun : ℕ) → begun ≡ c → 1 < length l → 0x80 ≤ third → third ≤ 0xBF → 0x80 ≤ fourth → fourth ≤ 0xBF
      → well ((begun * 64 + (third - 0x80)) * 64 + (fourth - 0x80)) 4 ≡ follow c 4 (tail ∷ tail ∷ []) l
  two_tails begun e h from to from' to' =
      ap (λ (n : ℕ). well ((n * 64 + (third - 0x80)) * 64 + (fourth - 0x80)) 4) e
      ∙ sym (hit l 0 0x80 0xBF c 4 (tail ∷ []) (omega arith) from to ∙ hit l 1 0x80 0xBF _ 4 [] h from' to' ∙ ends _ 4 _)

  pub one_tail : 0 < length l → 0x80 ≤ third → third ≤ 0xBF → (1 < length l → 0x80 ≤ fourth → fourth ≤ 0xBF → ⊥) → ill 3 ≡ follow c 4 (tail ∷ tail ∷ []) l
  one_tail h from to d = miss l 1 0x80 0xBF _ 4 [] d ∙ sym (hit l 0 0x80 0xBF c 4 (tail ∷ []) h from to)

  pub no_tail : (0 < length l → 0x80 ≤ third → third ≤ 0xBF → ⊥) → ill 2 ≡ follow c 4 (tail ∷ tail ∷ []) l
  no_tail d = miss l 0 0x80 0xBF c 4 (tail ∷ []) d

-- which row it is: the first octet says

-- b begins no character of the rows
abbrev pub Outside : ℕ → List Form → Type 0
Outside b [] = Unit {0}
Outside b (f ∷ fs) = (f.first.lo ≤ b → b ≤ f.first.hi → ⊥) × Outside b fs

-- a row that is none
abbrev pub no_form : Form
no_form = form 0 (range 1 0) []

abbrev pub Begins : ℕ → Form → Type 0
Begins b f = (f.first.lo ≤ b) × (b ≤ f.first.hi)

abbrev pub row_of : Form → ℕ → List ℕ → Result Character IllFormed
row_of f b l = follow (b - f.mark) (1 + length f.rest) f.rest l

-- the standard's row k
abbrev pub row : ℕ → Form
row k = get_or forms k no_form

nth_row : (fs : List Form) (k b : ℕ) (l : List ℕ) → Outside b (take k fs) → Begins b (get_or fs k no_form) → row_of (get_or fs k no_form) b l ≡ by_rows fs (b ∷ l)
unfolding by_rows
nth_row [] k b l o i = absurd (omega arith)
nth_row (f ∷ fs) zero b l o i = sym (rw (within_yes f.first.lo f.first.hi b i.0 i.1, by_rows))
nth_row (f ∷ fs) (suc k) b l o i = nth_row fs k b l o.1 i ∙ sym (rw (within_no f.first.lo f.first.hi b o.0, by_rows))

no_row : (fs : List Form) (b : ℕ) (l : List ℕ) → Outside b fs → ill 1 ≡ by_rows fs (b ∷ l)
unfolding by_rows
no_row [] b l o = refl
no_row (f ∷ fs) b l o = no_row fs b l o.1 ∙ sym (rw (within_no f.first.lo f.first.hi b o.0, by_rows))

-- by the first two octets of some bytes: the row k has the first, or none has it
module _ (l : List ℕ) (some : 0 < length l) where
  abbrev lead : ℕ
  lead = get_or l 0 0

  pub row_at : (k : ℕ) → Outside lead (take k forms) → Begins lead (row k) → row_of (row k) lead (drop 1 l) ≡ character l
  unfolding character
  row_at k o i = nth_row forms k lead (drop 1 l) o i ∙ ap (by_rows forms) (sym (drop-next l 0 some))

  pub no_row_at : Outside lead forms → ill 1 ≡ character l
  unfolding character
  no_row_at o = no_row forms lead (drop 1 l) o ∙ ap (by_rows forms) (sym (drop-next l 0 some))

  module _ (k : ℕ) {r : Range} {rs : List Range} (e : (row k).rest ≡ r ∷ rs) (o : Outside lead (take k forms)) (i : Begins lead (row k)) where
    begun : follow (lead - (row k).mark) (1 + length (row k).rest) (r ∷ rs) (drop 1 l) ≡ character l
    begun = ap (λ (m : List Range). follow (lead - (row k).mark) (1 + length (row k).rest) m (drop 1 l)) (sym e) ∙ row_at k o i

    -- the second is in the row's range: the row goes on
    pub goes_on : 1 < length l → r.lo ≤ get_or l 1 0 → get_or l 1 0 ≤ r.hi → follow ((lead - (row k).mark) * 64 + (get_or l 1 0 - 0x80)) (1 + length (row k).rest) rs (drop 2 l) ≡ character l
    goes_on h from to = sym (hit l 1 r.lo r.hi (lead - (row k).mark) (1 + length (row k).rest) rs h from to) ∙ begun

    -- it is not, or there is none
    pub stops : (1 < length l → r.lo ≤ get_or l 1 0 → get_or l 1 0 ≤ r.hi → ⊥) → ill 1 ≡ character l
    stops d =
        ap ill (let z = ap length e in omega arith)
        ∙ miss l 1 r.lo r.hi (lead - (row k).mark) (1 + length (row k).rest) rs d
        ∙ begun

-- at the end there is none
pub none : (l : List ℕ) → length l < 1 → ill 0 ≡ character l
unfolding character by_rows forms
none [] h = refl
none (b ∷ l) h = absurd (omega arith)

-- a first octet alone, of a row with more: one byte
none_follows : (c : ℕ) (rs : List Range) → 0 < length rs → follow c (1 + length rs) rs [] ≡ ill 1
unfolding follow
none_follows c [] h = absurd (omega arith)
none_follows c (r ∷ rs) h = ap ill (omega arith)

abbrev Longer : List Form → Type 0
Longer [] = Unit {0}
Longer (f ∷ fs) = (0 < length f.rest) × Longer fs

lone : (fs : List Form) (b : ℕ) → Longer fs → ill 1 ≡ by_rows fs (b ∷ [])
unfolding by_rows
lone [] b o = refl
lone (f ∷ fs) b o = split (within f.first.lo f.first.hi b) (λ t. sym (rw (t, by_rows) (none_follows (b - f.mark) f.rest o.0))) (λ t. lone fs b o.1 ∙ sym (rw (t, by_rows)))

pub alone : (l : List ℕ) → length l ≡ 1 → 0x80 ≤ get_or l 0 0 → ill 1 ≡ character l
unfolding character by_rows forms
alone [] e h = absurd (omega arith)
alone (b ∷ []) e h = lone (drop 1 forms) b (omega arith) ∙ sym (rw (within_no 0x00 0x7F b (λ from to. omega arith), by_rows))
alone (b ∷ c ∷ l) e h = absurd (omega arith)
