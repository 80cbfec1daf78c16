-- The definition of a character is RFC 3629's: it is well formed exactly if it matches a row of section 4; its code point is a scalar value, and
-- each scalar value has exactly one byte string, section 3's. Where none is well formed, the bytes counted are the longest start of one, at least one byte.
-- Assumes nothing.
use mathlib.Core.Path.{◌≡◌, refl, sym, ap, ap₂, ◌∙◌, subst}
use mathlib.Core.Bool.{Bool, true, false, ◌&&◌, true≢false}
use mathlib.Core.Logic.{◌↔◌, ◌⊎◌, inl, inr}
use mathlib.Core.List.{List, [], ◌∷◌, ◌++◌, Memᴰ, append-nil}
use Prim.Native.Nat.{ℕ, zero, suc, ◌+◌, ◌-◌, ◌*◌, ◌/◌, ◌%◌, ◌≤◌, ◌<◌, zero-le}
use native.Mathlib.Nat.{le_refl, sub-zero, not-suc-le-zero, le_of_suc-le-suc}
use native.Mathlib.Omega.{arith}
use lib.Dec.{T, leb, ltb, leb→le, lit<}
use lib.ListN.{length, take, drop, get_or, length-append, take-append-drop}
use lib.Seq.{take_at, take-length, length-take-le, drop_at, drop-append_seam}
use borrow.Author.Tests.{lt-ltb, le-ltb, ltb-true, ltb-false}
use Rattle.std.specs.Prelude.{Result, Ok, Err}
use Rattle.sise_util.specs.Chars.{within}
use Rattle.sise_util.specs.Utf8.{Range, range, tail, Form, form, forms, Fits, done, octet, Utf8Char, Utf8Octets, none, next, Starts, Subpart, well, ill, follow, by_rows, character, octets_of, Scalar}
use Rattle.sise_util.specs.declared.utf8.Character.{Character}
use Rattle.sise_util.specs.declared.utf8.IllFormed.{IllFormed}
use Rattle.sise_util.proofs.Ranges.{split, and_left, and_right}
use Rattle.sise_util.proofs.Utf8Steps.{within_yes, within_no, within_from, within_to, Begins, row_of, no_form}

-- the bits of the octets s after those that gave c
unfoldable pub bits_of : ℕ → List ℕ → ℕ
bits_of c [] = c
bits_of c (b ∷ s) = bits_of (c * 64 + (b - 0x80)) s

-- octets that fit are read whole

follow_fits : {rs : List Range} {s : List ℕ} → Fits rs s → (c n : ℕ) (l : List ℕ) → follow c n rs (s ++ l) ≡ well (bits_of c s) n
unfolding follow bits_of
follow_fits done c n l = refl
follow_fits (octet {r} {b = b} {l = s} h k i) c n l = rw (within_yes r.lo r.hi b h k, follow) (follow_fits i (c * 64 + (b - 0x80)) n l)

-- the rows' first ranges rise from m on, so that no octet begins two rows
abbrev rising : ℕ → List Form → Bool
rising m [] = true
rising m (f ∷ fs) = leb m f.first.lo && (leb f.first.lo f.first.hi && rising (suc f.first.hi) fs)

module _ (m : ℕ) (f : Form) (fs : List Form) (t : T (rising m (f ∷ fs))) where
  lower : m ≤ f.first.lo
  lower = leb→le m f.first.lo (and_left (leb m f.first.lo) (leb f.first.lo f.first.hi && rising (suc f.first.hi) fs) t)

  others : T (leb f.first.lo f.first.hi && rising (suc f.first.hi) fs)
  others = and_right (leb m f.first.lo) (leb f.first.lo f.first.hi && rising (suc f.first.hi) fs) t

  ordered : f.first.lo ≤ f.first.hi
  ordered = leb→le f.first.lo f.first.hi (and_left (leb f.first.lo f.first.hi) (rising (suc f.first.hi) fs) others)

  rest_rises : T (rising (suc f.first.hi) fs)
  rest_rises = and_right (leb f.first.lo f.first.hi) (rising (suc f.first.hi) fs) others

above : (m : ℕ) (fs : List Form) {f : Form} → T (rising m fs) → Memᴰ f fs → m ≤ f.first.lo
above m [] {f = f} t x = elim x [ ]
above m (g ∷ fs) t (Memᴰ.head e) = subst (λ (h : Form). m ≤ h.first.lo) (sym e) (lower m g fs t)
above m (g ∷ fs) {f} t (Memᴰ.tail i) =
    let l : m ≤ g.first.lo = lower m g fs t in
    let o : g.first.lo ≤ g.first.hi = ordered m g fs t in
    let a : suc g.first.hi ≤ f.first.lo = above (suc g.first.hi) fs (rest_rises m g fs t) i in
    omega arith

-- a row of the list is found by its first octet
row_taken : (f : Form) (fs : List Form) (b : ℕ) (l : List ℕ) → Begins b f → by_rows (f ∷ fs) (b ∷ l) ≡ row_of f b l
unfolding by_rows
row_taken f fs b l i = rw (within_yes f.first.lo f.first.hi b i.0 i.1, by_rows)

row_passed : (f : Form) (fs : List Form) (b : ℕ) (l : List ℕ) → (f.first.lo ≤ b → b ≤ f.first.hi → ⊥) → by_rows (f ∷ fs) (b ∷ l) ≡ by_rows fs (b ∷ l)
unfolding by_rows
row_passed f fs b l d = rw (within_no f.first.lo f.first.hi b d, by_rows)

member_row : (m : ℕ) (fs : List Form) {f : Form} → T (rising m fs) → Memᴰ f fs → (b : ℕ) (l : List ℕ) → Begins b f → by_rows fs (b ∷ l) ≡ row_of f b l
member_row m [] {f = f} t x b l i = elim x [ ]
member_row m (g ∷ fs) t (Memᴰ.head e) b l i = ap (λ (h : Form). by_rows (h ∷ fs) (b ∷ l)) (sym e) ∙ row_taken _ fs b l i
member_row m (g ∷ fs) {f} t (Memᴰ.tail j) b l i =
    row_passed g fs b l (λ h k. apart (above (suc g.first.hi) fs (rest_rises m g fs t) j) k)
    ∙ member_row (suc g.first.hi) fs (rest_rises m g fs t) j b l i
  where
    apart : suc g.first.hi ≤ f.first.lo → b ≤ g.first.hi → ⊥
    apart a k = let z : f.first.lo ≤ b = i.0 in omega arith

-- the code point of the octets s of a row
unfoldable pub code_point : Form → List ℕ → ℕ
code_point f [] = 0
code_point f (b ∷ s) = bits_of (b - f.mark) s

fits_length : {rs : List Range} {s : List ℕ} → Fits rs s → length rs ≡ length s
fits_length done = refl
fits_length (octet h k i) = ap suc (fits_length i)

-- a character of a row is read whole, whatever follows it
row_read : (f : Form) → Memᴰ f forms → {s : List ℕ} → Fits (f.first ∷ f.rest) s → (l : List ℕ) → character (s ++ l) ≡ well (code_point f s) (length s)
unfolding character code_point forms
row_read f m (octet {b = b} {l = s} h k i) l =
    member_row 0 forms tt m b (s ++ l) (h, k)
    ∙ follow_fits i (b - f.mark) (1 + length f.rest) l
    ∙ ap (well (bits_of (b - f.mark) s)) (longer (fits_length i))
  where
    longer : length f.rest ≡ length s → 1 + length f.rest ≡ suc (length s)
    longer e = omega arith

pub reads_char : {s : List ℕ} (u : Utf8Char s) (l : List ℕ) → character (s ++ l) ≡ well (code_point u.row s) (length s)
reads_char u l = row_read u.row u.listed u.fits l

-- what is read is a character of a row

-- some octets s of the ranges, and what is left
record Read (rs : List Range) (c n : ℕ) (l : List ℕ) (d k : ℕ) : Type 0 where
  octets : List ℕ
  left : List ℕ
  parts : l ≡ octets ++ left
  fits : Fits rs octets
  code : d ≡ bits_of c octets
  count : k ≡ n

-- what the two kinds of answer hold
abbrev code_in : Result Character IllFormed → ℕ
code_in (Ok c) = c.code
code_in (Err i) = 0

abbrev pub size_in : Result Character IllFormed → ℕ
size_in (Ok c) = c.len
size_in (Err i) = i.len

pub ill≢well : {j d k : ℕ} → ill j ≡ well d k → ⊥
ill≢well e = let z : ◌≡◌ {A = ℕ} 0 1 = cc in omega arith

follow_hit : (r : Range) (rs : List Range) (c n b : ℕ) (l : List ℕ) → within r.lo r.hi b ≡ true → follow c n (r ∷ rs) (b ∷ l) ≡ follow (c * 64 + (b - 0x80)) n rs l
unfolding follow
follow_hit r rs c n b l w = rw (w, follow)

follow_miss : (r : Range) (rs : List Range) (c n b : ℕ) (l : List ℕ) → within r.lo r.hi b ≡ false → follow c n (r ∷ rs) (b ∷ l) ≡ ill (n - suc (length rs))
unfolding follow
follow_miss r rs c n b l w = rw (w, follow)

one_more : (r : Range) {rs : List Range} {c n b : ℕ} {l : List ℕ} {d k : ℕ} → within r.lo r.hi b ≡ true → Read rs (c * 64 + (b - 0x80)) n l d k → Read (r ∷ rs) c n (b ∷ l) d k
unfolding bits_of
one_more r {b = b} w x =
    record {
      octets = b ∷ x.octets;
      left = x.left;
      parts = ap (λ (m : List ℕ). b ∷ m) x.parts;
      fits = octet (within_from r.lo r.hi b w) (within_to r.lo r.hi b w) x.fits;
      code = x.code;
      count = x.count;
    }

follow_read : (rs : List Range) (c n : ℕ) (l : List ℕ) {d k : ℕ} → follow c n rs l ≡ well d k → Read rs c n l d k
unfolding follow bits_of
follow_read [] c n l e = record { octets = []; left = l; parts = refl; fits = done; code = sym (ap code_in e); count = sym (ap size_in e) }
follow_read (r ∷ rs) c n [] e = absurd (ill≢well e)
follow_read (r ∷ rs) c n (b ∷ l) e =
    split (within r.lo r.hi b)
    (λ w. one_more r w (follow_read rs (c * 64 + (b - 0x80)) n l (sym (follow_hit r rs c n b l w) ∙ e)))
    (λ w. absurd (ill≢well (sym (follow_miss r rs c n b l w) ∙ e)))

-- the row of a character that is read, its octets and what is left
pub record Found (fs : List Form) (l : List ℕ) (d k : ℕ) : Type 0 where
  pub row : Form
  pub listed : Memᴰ row fs
  pub octets : List ℕ
  pub left : List ℕ
  pub parts : l ≡ octets ++ left
  pub fits : Fits (row.first ∷ row.rest) octets
  pub code : d ≡ code_point row octets
  pub count : k ≡ length octets

later : {f : Form} {fs : List Form} {l : List ℕ} {d k : ℕ} → Found fs l d k → Found (f ∷ fs) l d k
later x =
    record { row = x.row; listed = Memᴰ.tail x.listed; octets = x.octets; left = x.left; parts = x.parts; fits = x.fits; code = x.code; count = x.count }

here : (f : Form) (fs : List Form) (b : ℕ) (l : List ℕ) {d k : ℕ} → within f.first.lo f.first.hi b ≡ true
    → Read f.rest (b - f.mark) (1 + length f.rest) l d k → Found (f ∷ fs) (b ∷ l) d k
unfolding code_point
here f fs b l {d} {k} w x =
    record {
      row = f;
      listed = Memᴰ.head refl;
      octets = b ∷ x.octets;
      left = x.left;
      parts = ap (λ (m : List ℕ). b ∷ m) x.parts;
      fits = octet (within_from f.first.lo f.first.hi b w) (within_to f.first.lo f.first.hi b w) x.fits;
      code = x.code;
      count = count (fits_length x.fits);
    }
  where
    count : length f.rest ≡ length x.octets → k ≡ suc (length x.octets)
    count e = let z : k ≡ 1 + length f.rest = x.count in omega arith

found_in : (fs : List Form) (l : List ℕ) {d k : ℕ} → by_rows fs l ≡ well d k → Found fs l d k
unfolding by_rows
found_in [] [] e = absurd (ill≢well e)
found_in [] (b ∷ l) e = absurd (ill≢well e)
found_in (f ∷ fs) [] e = absurd (ill≢well e)
found_in (f ∷ fs) (b ∷ l) e =
    split (within f.first.lo f.first.hi b)
    (λ w.
    let i : Begins b f = (within_from f.first.lo f.first.hi b w, within_to f.first.lo f.first.hi b w) in
    here f fs b l w (follow_read f.rest (b - f.mark) (1 + length f.rest) l (sym (row_taken f fs b l i) ∙ e)))
    (λ w. later (found_in fs (b ∷ l) (sym (row_passed f fs b l (λ h k. true≢false (sym (within_yes f.first.lo f.first.hi b h k) ∙ w))) ∙ e)))

pub found : (l : List ℕ) {d k : ℕ} → character l ≡ well d k → Found forms l d k
unfolding character
found l e = found_in forms l e

-- a character has at least one byte, and lies within the bytes that begin with it
pub size_fits : (l : List ℕ) {c k : ℕ} → character l ≡ well c k → (1 ≤ k) × (k ≤ length l)
size_fits l {c} {k} e =
    let x = found l e in
    let n : k ≡ length x.octets = x.count in
    (least x.fits n, most (length x.octets) (length x.left) (ap length x.parts ∙ length-append x.octets x.left) n)
  where
    least : {rs : List Range} {r : Range} {s : List ℕ} → Fits (r ∷ rs) s → k ≡ length s → 1 ≤ k
    least (octet p q i) n = omega arith

    most : (a b : ℕ) → length l ≡ a + b → k ≡ a → k ≤ length l
    most a b m n = omega arith

-- nothing is left where the octets are as many as all
all_of : (s t l : List ℕ) → l ≡ s ++ t → length l ≡ length s → l ≡ s
all_of s [] l e h = e ∙ append-nil s
all_of s (b ∷ t) l e h = absurd (more (ap length e ∙ length-append s (b ∷ t)))
  where
    more : length l ≡ length s + suc (length t) → ⊥
    more z = omega arith

-- a byte string is a well-formed character exactly if it matches a row
pub well_formed : (s : List ℕ) → ((c : ℕ) × (character s ≡ well c (length s))) ↔ Utf8Char s
well_formed s = (
  λ w.
      let x = found s w.1 in
      subst Utf8Char (sym (all_of x.octets x.left s x.parts x.count)) (record { row = x.row; listed = x.listed; fits = x.fits }),
  λ u. (code_point u.row s, ap character (sym (append-nil s)) ∙ reads_char u []),
)

-- no character is well formed exactly where no prefix of the bytes matches a row
pub ill_formed_lem : (l : List ℕ) → ((n : ℕ) × (character l ≡ ill n)) ↔ ((k : ℕ) → Utf8Char (take k l) → ⊥)
ill_formed_lem l = (λ w k u. ill≢well (sym w.1 ∙ ap character (sym (take-append-drop k l)) ∙ reads_char u (drop k l)), λ h. go h (character l) refl)
  where
    go : ((k : ℕ) → Utf8Char (take k l) → ⊥) → (c : Result Character IllFormed) → character l ≡ c → (n : ℕ) × (character l ≡ ill n)
    go h (Ok c) e =
        let x = found l e in
        let s : take c.len l ≡ x.octets = ap (take c.len) x.parts ∙ take_at x.octets x.left c.len (sym x.count) in
        absurd (h c.len (subst Utf8Char (sym s) (record { row = x.row; listed = x.listed; fits = x.fits })))
    go h (Err i) e = (i.len, e)

-- what is ill formed: how many bytes stand for the broken character

-- bytes that fit the ranges rs only in part, behind m octets: those that fit, and octets that would be due in place of what is left
record Broken (rs : List Range) (l : List ℕ) (m k : ℕ) : Type 0 where
  octets : List ℕ
  left : List ℕ
  due : List ℕ
  parts : l ≡ octets ++ left
  fits : Fits rs (octets ++ due)
  count : k ≡ m + length octets

-- each range has an octet
abbrev filled : List Range → Bool
filled [] = true
filled (r ∷ rs) = leb r.lo r.hi && filled rs

abbrev lows : List Range → List ℕ
lows [] = []
lows (r ∷ rs) = r.lo ∷ lows rs

lows_fit : (rs : List Range) → T (filled rs) → Fits rs (lows rs)
lows_fit [] t = done
lows_fit (r ∷ rs) t = octet (le_refl r.lo) (leb→le r.lo r.hi (and_left (leb r.lo r.hi) (filled rs) t)) (lows_fit rs (and_right (leb r.lo r.hi) (filled rs) t))

broken_here : (r : Range) (rs : List Range) (l : List ℕ) (m n k : ℕ) → T (filled (r ∷ rs)) → n ≡ m + suc (length rs) → ill (n - suc (length rs)) ≡ ill k → Broken (r ∷ rs) l m k
broken_here r rs l m n k t h e =
    let z = ap size_in e in
    record { octets = []; left = l; due = lows (r ∷ rs); parts = refl; fits = lows_fit (r ∷ rs) t; count = omega arith }

broken_next : (r : Range) {rs : List Range} (b : ℕ) {l : List ℕ} {m k : ℕ} → within r.lo r.hi b ≡ true → Broken rs l (suc m) k → Broken (r ∷ rs) (b ∷ l) m k
broken_next r b {m = m} {k} w x =
    record {
      octets = b ∷ x.octets;
      left = x.left;
      due = x.due;
      parts = ap (λ (s : List ℕ). b ∷ s) x.parts;
      fits = octet (within_from r.lo r.hi b w) (within_to r.lo r.hi b w) x.fits;
      count = longer x.count;
    }
  where
    longer : k ≡ suc m + length x.octets → k ≡ m + suc (length x.octets)
    longer e = omega arith

follow_broken : (rs : List Range) (c n : ℕ) (l : List ℕ) {m k : ℕ} → T (filled rs) → n ≡ m + length rs → follow c n rs l ≡ ill k → Broken rs l m k
unfolding follow
follow_broken [] c n l t h e = absurd (ill≢well (sym e))
follow_broken (r ∷ rs) c n [] {m} {k} t h e = broken_here r rs [] m n k t h e
follow_broken (r ∷ rs) c n (b ∷ l) {m} {k} t h e =
    split (within r.lo r.hi b)
    (λ w. broken_next r b w (follow_broken rs (c * 64 + (b - 0x80)) n l (and_right (leb r.lo r.hi) (filled rs) t) (omega arith) (sym (follow_hit r rs c n b l w) ∙ e)))
    (λ w. broken_here r rs (b ∷ l) m n k t h (sym (follow_miss r rs c n b l w) ∙ e))

-- what is broken stays so, whatever follows the octet that does not fit
follow_stays : (rs : List Range) (c n m : ℕ) (p q : List ℕ) {k : ℕ} → T (filled rs) → n ≡ m + length rs → follow c n rs (p ++ q) ≡ ill k → k < m + length p → (t : List ℕ)
    → follow c n rs (p ++ t) ≡ ill k
unfolding follow
follow_stays [] c n m p q t h e d u = absurd (ill≢well (sym e))
follow_stays (r ∷ rs) c n m [] q {k} t h e d u = let z : k ≡ m + length x.octets = x.count in absurd (omega arith)
  where
    x : Broken (r ∷ rs) q m k
    x = follow_broken (r ∷ rs) c n q t h e
follow_stays (r ∷ rs) c n m (b ∷ p) q t h e d u =
    split (within r.lo r.hi b)
    (λ w.
    follow_hit r rs c n b (p ++ u) w
    ∙ follow_stays rs (c * 64 + (b - 0x80)) n (suc m) p q (and_right (leb r.lo r.hi) (filled rs) t) (omega arith) (sym (follow_hit r rs c n b (p ++ q) w) ∙ e) (omega arith) u)
    (λ w. follow_miss r rs c n b (p ++ u) w ∙ sym (follow_miss r rs c n b (p ++ q) w) ∙ e)

-- a row's first octet and octets that are broken, or an octet of no row
data BrokenIn (fs : List Form) (b : ℕ) (l : List ℕ) (k : ℕ) : Type 0 where
  lone : k ≡ 1 → BrokenIn fs b l k
  cut : (f : Form) → Memᴰ f fs → Begins b f → Broken f.rest l 1 k → BrokenIn fs b l k

abbrev all_filled : List Form → Bool
all_filled [] = true
all_filled (f ∷ fs) = filled f.rest && all_filled fs

broken_later : {f : Form} {fs : List Form} {b : ℕ} {l : List ℕ} {k : ℕ} → BrokenIn fs b l k → BrokenIn (f ∷ fs) b l k
broken_later (lone e) = lone e
broken_later (cut g i j x) = cut g (Memᴰ.tail i) j x

broken_in : (fs : List Form) (b : ℕ) (l : List ℕ) {k : ℕ} → T (all_filled fs) → by_rows fs (b ∷ l) ≡ ill k → BrokenIn fs b l k
unfolding by_rows
broken_in [] b l t e = lone (sym (ap size_in e))
broken_in (f ∷ fs) b l t e =
    split (within f.first.lo f.first.hi b)
    (λ w.
    let i : Begins b f = (within_from f.first.lo f.first.hi b w, within_to f.first.lo f.first.hi b w) in
    cut f (Memᴰ.head refl) i
    (follow_broken f.rest (b - f.mark) (1 + length f.rest) l (and_left (filled f.rest) (all_filled fs) t) refl (sym (row_taken f fs b l i) ∙ e)))
    (λ w. broken_later (broken_in fs b l (and_right (filled f.rest) (all_filled fs) t) (sym (row_passed f fs b l (λ h k. true≢false (sym (within_yes f.first.lo f.first.hi b h k) ∙ w))) ∙ e)))

rows_stay : (fs : List Form) (b : ℕ) (p q : List ℕ) {k : ℕ} → T (all_filled fs) → by_rows fs (b ∷ p ++ q) ≡ ill k → k < suc (length p) → (u : List ℕ) → by_rows fs (b ∷ p ++ u) ≡ ill k
unfolding by_rows
rows_stay [] b p q t e d u = e
rows_stay (f ∷ fs) b p q t e d u =
    split (within f.first.lo f.first.hi b)
    (λ w.
    let i : Begins b f = (within_from f.first.lo f.first.hi b w, within_to f.first.lo f.first.hi b w) in
    row_taken f fs b (p ++ u) i
    ∙ follow_stays f.rest (b - f.mark) (1 + length f.rest) 1 p q (and_left (filled f.rest) (all_filled fs) t) refl (sym (row_taken f fs b (p ++ q) i) ∙ e) (omega arith) u)
    (λ w.
    let o : f.first.lo ≤ b → b ≤ f.first.hi → ⊥ = λ h k. true≢false (sym (within_yes f.first.lo f.first.hi b h k) ∙ w) in
    row_passed f fs b (p ++ u) o ∙ rows_stay fs b p q (and_right (filled f.rest) (all_filled fs) t) (sym (row_passed f fs b (p ++ q) o) ∙ e) d u)

-- the bytes that stand for a broken character are the longest start of a character found there, at least one byte
pub broken_subpart : (b : ℕ) (l : List ℕ) {k : ℕ} → character (b ∷ l) ≡ ill k → Subpart (b ∷ l) k
unfolding character forms
broken_subpart b l {k} e = go (broken_in forms b l tt e)
  where
    longest : (j : ℕ) → k < j → j ≤ suc (length l) → Starts (take j (b ∷ l)) → ⊥
    longest zero h i u = omega arith
    longest (suc j) h i (t, u) =
        let n : length (take j l) ≡ j = length-take-le j l (le_of_suc-le-suc i) in
        ill≢well
        (sym (rows_stay forms b (take j l) (drop j l) tt (ap (λ (s : List ℕ). by_rows forms (b ∷ s)) (take-append-drop j l) ∙ e) (omega arith) t)
        ∙ ap character (sym (append-nil (b ∷ take j l ++ t)))
        ∙ reads_char u [])

    go : BrokenIn forms b l k → Subpart (b ∷ l) k
    go (lone h) = record { some = omega arith; inside = omega arith; starts = inl h; longest = longest }
    go (cut f i j x) =
        let n : k ≡ 1 + length x.octets = x.count in
        let m : length l ≡ length x.octets + length x.left = ap length x.parts ∙ length-append x.octets x.left in
        let s : take k (b ∷ l) ≡ b ∷ x.octets = ap (λ (u : List ℕ). take k (b ∷ u)) x.parts ∙ take_at (b ∷ x.octets) x.left k (omega arith) in
        record {
          some = omega arith;
          inside = omega arith;
          starts = inr (subst Starts (sym s) (x.due, record { row = f; listed = i; fits = octet j.0 j.1 x.fits }));
          longest = longest;
        }

-- and they never pass the end
pub broken_fits : (l : List ℕ) {k : ℕ} → character l ≡ ill k → k ≤ length l
unfolding character by_rows forms
broken_fits [] {k} e = let z = ap size_in e in omega arith
broken_fits (b ∷ l) e = (broken_subpart b l e).inside

-- there is one such number
pub one_subpart : {l : List ℕ} {j k : ℕ} → Subpart l j → Subpart l k → j ≡ k
one_subpart {l} {j} {k} x y = split (ltb j k) (λ e. absurd (less x y (ltb-true j k e))) (λ e. split (ltb k j) (λ d. absurd (less y x (ltb-true k j d))) (λ d. omega (arith, ltb-false j k e, ltb-false k j d)))
  where
    less : {m n : ℕ} → Subpart l m → Subpart l n → m < n → ⊥
    less {m} {n} u v h = go v.starts
      where
        go : (n ≡ 1) ⊎ Starts (take n l) → ⊥
        go (inl e) = let z : 1 ≤ m = u.some in omega arith
        go (inr t) = u.longest n h v.inside t

-- the octets of a code point, by its size

one_octet : (c : ℕ) → c < 0x80 → octets_of c ≡ c ∷ []
unfolding octets_of
one_octet c h = rw (lt-ltb c 0x80 h)

two_octets : (c : ℕ) → 0x80 ≤ c → c < 0x800 → octets_of c ≡ (0xC0 + c / 64) ∷ (0x80 + c % 64) ∷ []
unfolding octets_of
two_octets c h k = rw (le-ltb c 0x80 h, lt-ltb c 0x800 k)

three_octets : (c : ℕ) → 0x800 ≤ c → c < 0x10000 → octets_of c ≡ (0xE0 + c / 4096) ∷ (0x80 + c / 64 % 64) ∷ (0x80 + c % 64) ∷ []
unfolding octets_of
three_octets c h k = rw (le-ltb c 0x80 (omega arith), le-ltb c 0x800 h, lt-ltb c 0x10000 k)

four_octets : (c : ℕ) → 0x10000 ≤ c → octets_of c ≡ (0xF0 + c / 262144) ∷ (0x80 + c / 4096 % 64) ∷ (0x80 + c / 64 % 64) ∷ (0x80 + c % 64) ∷ []
unfolding octets_of
four_octets c h = rw (le-ltb c 0x80 (omega arith), le-ltb c 0x800 (omega arith), le-ltb c 0x10000 h)

-- of each row: the code point is a scalar value, and its octets are those that were read

record Encodes (c : ℕ) (s : List ℕ) : Type 0 where
  scalar : Scalar c
  back : octets_of c ≡ s

abbrev Sound : Form → Type 0
Sound f = (s : List ℕ) → Fits (f.first ∷ f.rest) s → Encodes (code_point f s) s

-- the code points of two, three and four octets
abbrev code₂ : ℕ → ℕ → ℕ
code₂ a b = (a - 0xC0) * 64 + (b - 0x80)

abbrev code₃ : ℕ → ℕ → ℕ → ℕ
code₃ a b d = ((a - 0xE0) * 64 + (b - 0x80)) * 64 + (d - 0x80)

abbrev code₄ : ℕ → ℕ → ℕ → ℕ → ℕ
code₄ a b d g = (((a - 0xF0) * 64 + (b - 0x80)) * 64 + (d - 0x80)) * 64 + (g - 0x80)

pair : {a b x y : ℕ} → a ≡ x → b ≡ y → a ∷ b ∷ [] ≡ x ∷ y ∷ []
pair p q = cc

triple : {a b c x y z : ℕ} → a ≡ x → b ≡ y → c ≡ z → a ∷ b ∷ c ∷ [] ≡ x ∷ y ∷ z ∷ []
triple p q r = cc

quadruple : {a b c d x y z w : ℕ} → a ≡ x → b ≡ y → c ≡ z → d ≡ w → a ∷ b ∷ c ∷ d ∷ [] ≡ x ∷ y ∷ z ∷ w ∷ []
quadruple p q r s = cc

from_two : (a b : ℕ) → 0xC2 ≤ a → a ≤ 0xDF → 0x80 ≤ b → b ≤ 0xBF → Encodes (code₂ a b) (a ∷ b ∷ [])
from_two a b p q r s =
    record {
      scalar = record { below = omega arith; plain = omega arith };
      back = two_octets (code₂ a b) (omega arith) (omega arith) ∙ pair (omega arith) (omega arith);
    }

from_three : (a b d : ℕ) → 0xE0 ≤ a → a ≤ 0xEF → 0x80 ≤ b → b ≤ 0xBF → 0x80 ≤ d → d ≤ 0xBF
    → 0x800 ≤ code₃ a b d → (0xD800 ≤ code₃ a b d → code₃ a b d ≤ 0xDFFF → ⊥) → Encodes (code₃ a b d) (a ∷ b ∷ d ∷ [])
from_three a b d p q r s u v low plain =
    record {
      scalar = record { below = omega arith; plain = plain };
      back = three_octets (code₃ a b d) low (omega arith) ∙ triple (omega arith) (omega arith) (omega arith);
    }

from_four : (a b d g : ℕ) → 0xF0 ≤ a → a ≤ 0xF4 → 0x80 ≤ b → b ≤ 0xBF → 0x80 ≤ d → d ≤ 0xBF → 0x80 ≤ g → g ≤ 0xBF
    → 0x10000 ≤ code₄ a b d g → code₄ a b d g < 0x110000 → Encodes (code₄ a b d g) (a ∷ b ∷ d ∷ g ∷ [])
from_four a b d g p q r s u v w x low high =
    record {
      scalar = record { below = high; plain = omega arith };
      back = four_octets (code₄ a b d g) low ∙ quadruple (omega arith) (omega arith) (omega arith) (omega arith);
    }

abbrev All : (Form → Type 0) → List Form → Type 0
All P [] = Unit {0}
All P (f ∷ fs) = P f × All P fs

rows_sound : All Sound forms
unfolding forms code_point bits_of
rows_sound =
    (row₁, (row₂, (row₃, (row₃₁, (row₃₂, (row₃₃, (row₄, (row₄₁, (row₄₂, tt)))))))))
  where
    row₁ : Sound (form 0x00 (range 0x00 0x7F) [])
    row₁ s (octet {b = a} p q done) = record { scalar = record { below = omega arith; plain = omega arith }; back = one_octet (a - 0) (omega arith) ∙ ap (λ (n : ℕ). n ∷ []) (sub-zero a) }

    row₂ : Sound (form 0xC0 (range 0xC2 0xDF) (tail ∷ []))
    row₂ s (octet {b = a} p q (octet {b = b} r u done)) = from_two a b p q r u

    row₃ : Sound (form 0xE0 (range 0xE0 0xE0) (range 0xA0 0xBF ∷ tail ∷ []))
    row₃ s (octet {b = a} p q (octet {b = b} r u (octet {b = d} v w done))) = from_three a b d p (omega arith) (omega arith) u v w (omega arith) (omega arith)

    row₃₁ : Sound (form 0xE0 (range 0xE1 0xEC) (tail ∷ tail ∷ []))
    row₃₁ s (octet {b = a} p q (octet {b = b} r u (octet {b = d} v w done))) = from_three a b d (omega arith) (omega arith) r u v w (omega arith) (omega arith)

    row₃₂ : Sound (form 0xE0 (range 0xED 0xED) (range 0x80 0x9F ∷ tail ∷ []))
    row₃₂ s (octet {b = a} p q (octet {b = b} r u (octet {b = d} v w done))) = from_three a b d (omega arith) (omega arith) r (omega arith) v w (omega arith) (omega arith)

    row₃₃ : Sound (form 0xE0 (range 0xEE 0xEF) (tail ∷ tail ∷ []))
    row₃₃ s (octet {b = a} p q (octet {b = b} r u (octet {b = d} v w done))) = from_three a b d (omega arith) q r u v w (omega arith) (omega arith)

    row₄ : Sound (form 0xF0 (range 0xF0 0xF0) (range 0x90 0xBF ∷ tail ∷ tail ∷ []))
    row₄ s (octet {b = a} p q (octet {b = b} r u (octet {b = d} v w (octet {b = g} x y done)))) = from_four a b d g p (omega arith) (omega arith) u v w x y (omega arith) (omega arith)

    row₄₁ : Sound (form 0xF0 (range 0xF1 0xF3) (tail ∷ tail ∷ tail ∷ []))
    row₄₁ s (octet {b = a} p q (octet {b = b} r u (octet {b = d} v w (octet {b = g} x y done)))) = from_four a b d g (omega arith) (omega arith) r u v w x y (omega arith) (omega arith)

    row₄₂ : Sound (form 0xF0 (range 0xF4 0xF4) (range 0x80 0x8F ∷ tail ∷ tail ∷ []))
    row₄₂ s (octet {b = a} p q (octet {b = b} r u (octet {b = d} v w (octet {b = g} x y done)))) = from_four a b d g (omega arith) q r (omega arith) v w x y (omega arith) (omega arith)

all_member : (P : Form → Type 0) (fs : List Form) → All P fs → {f : Form} → Memᴰ f fs → P f
all_member P [] a {f = f} x = elim x [ ]
all_member P (g ∷ fs) a (Memᴰ.head e) = subst P (sym e) a.0
all_member P (g ∷ fs) a (Memᴰ.tail i) = all_member P fs a.1 i

found_encodes : {l : List ℕ} {c k : ℕ} (x : Found forms l c k) → Encodes c x.octets
found_encodes x = subst (λ (d : ℕ). Encodes d x.octets) (sym x.code) (all_member Sound forms rows_sound x.listed x.octets x.fits)

-- the code point of a well-formed character is below 0x110000, and no surrogate
pub scalar_value : (l : List ℕ) {c k : ℕ} → character l ≡ well c k → Scalar c
scalar_value l e = (found_encodes (found l e)).scalar

-- a well-formed character has the octets of its code point
pub its_octets : (l : List ℕ) {c k : ℕ} → character l ≡ well c k → take k l ≡ octets_of c
its_octets l {c} {k} e =
    let x = found l e in
    ap (take k) x.parts ∙ take_at x.octets x.left k (sym x.count) ∙ sym (found_encodes x).back

-- and each scalar value's octets are a well-formed character

record Encoded (c : ℕ) (s : List ℕ) : Type 0 where
  char : Utf8Char s
  code : code_point char.row s ≡ c

nth_member : (fs : List Form) (k : ℕ) → k < length fs → Memᴰ (get_or fs k no_form) fs
nth_member [] k h = absurd (not-suc-le-zero h)
nth_member (f ∷ fs) zero h = Memᴰ.head refl
nth_member (f ∷ fs) (suc k) h = Memᴰ.tail (nth_member fs k (le_of_suc-le-suc h))

-- the octets s of the row k have the code point c
of_row : (k : ℕ) → k < 9 → (c : ℕ) (s : List ℕ) → Fits ((get_or forms k no_form).first ∷ (get_or forms k no_form).rest) s → code_point (get_or forms k no_form) s ≡ c → Encoded c s
unfolding forms
of_row k h c s i e = record { char = record { row = get_or forms k no_form; listed = nth_member forms k h; fits = i }; code = e }

encode₁ : (c : ℕ) → c < 0x80 → Encoded c (c ∷ [])
unfolding forms code_point bits_of
encode₁ c h = of_row 0 (lit< tt) c (c ∷ []) (octet zero-le (omega arith) done) (sub-zero c)

encode₂ : (c : ℕ) → 0x80 ≤ c → c < 0x800 → Encoded c ((0xC0 + c / 64) ∷ (0x80 + c % 64) ∷ [])
unfolding forms code_point bits_of
encode₂ c h k = of_row 1 (lit< tt) c _ (octet (omega arith) (omega arith) (octet (omega arith) (omega arith) done)) (omega arith)

-- below n, or n and more
below : {A : Type 0} (c n : ℕ) → (c < n → A) → (n ≤ c → A) → A
below c n f g = split (ltb c n) (λ e. f (ltb-true c n e)) (λ e. g (ltb-false c n e))

encode₃ : (c : ℕ) → 0x800 ≤ c → c < 0x10000 → (0xD800 ≤ c → c ≤ 0xDFFF → ⊥) → Encoded c ((0xE0 + c / 4096) ∷ (0x80 + c / 64 % 64) ∷ (0x80 + c % 64) ∷ [])
unfolding forms code_point bits_of
encode₃ c h k plain =
    below c 0x1000
    (λ e. of_row 2 (lit< tt) c _ (octet (omega arith) (omega arith) (octet (omega arith) (omega arith) (octet (omega arith) (omega arith) done))) (omega arith))
    (λ e. below c 0xD000
    (λ e₁. of_row 3 (lit< tt) c _ (octet (omega arith) (omega arith) (octet (omega arith) (omega arith) (octet (omega arith) (omega arith) done))) (omega arith))
    (λ e₁. below c 0xD800
    (λ e₂. of_row 4 (lit< tt) c _ (octet (omega arith) (omega arith) (octet (omega arith) (omega arith) (octet (omega arith) (omega arith) done))) (omega arith))
    (λ e₂. below c 0xE000
    (λ e₃. absurd (plain e₂ (omega arith)))
    (λ e₃. of_row 5 (lit< tt) c _ (octet (omega arith) (omega arith) (octet (omega arith) (omega arith) (octet (omega arith) (omega arith) done))) (omega arith)))))

-- six bits and those above them
six : (c : ℕ) → c / 64 ≡ c / 4096 * 64 + c / 64 % 64
six c = omega arith

twelve : (c : ℕ) → c / 4096 ≡ c / 262144 * 64 + c / 4096 % 64
twelve c = omega arith

encode₄ : (c : ℕ) → 0x10000 ≤ c → c < 0x110000 → Encoded c ((0xF0 + c / 262144) ∷ (0x80 + c / 4096 % 64) ∷ (0x80 + c / 64 % 64) ∷ (0x80 + c % 64) ∷ [])
unfolding forms code_point bits_of
encode₄ c h k =
    below c 0x40000
    (λ e. of_row 6 (lit< tt) c _ (octet (omega arith) (omega arith) (octet (omega arith) (omega arith) (octet (omega arith) (omega arith) (octet (omega arith) (omega arith) done)))) (omega (arith, six c, twelve c)))
    (λ e. below c 0x100000
    (λ e₁. of_row 7 (lit< tt) c _ (octet (omega arith) (omega arith) (octet (omega arith) (omega arith) (octet (omega arith) (omega arith) (octet (omega arith) (omega arith) done)))) (omega (arith, six c, twelve c)))
    (λ e₁. of_row 8 (lit< tt) c _ (octet (omega arith) (omega arith) (octet (omega arith) (omega arith) (octet (omega arith) (omega arith) (octet (omega arith) (omega arith) done)))) (omega (arith, six c, twelve c))))

encode : (c : ℕ) → Scalar c → Encoded c (octets_of c)
encode c s =
    below c 0x80
    (λ e. subst (Encoded c) (sym (one_octet c e)) (encode₁ c e))
    (λ e. below c 0x800
    (λ e₁. subst (Encoded c) (sym (two_octets c e e₁)) (encode₂ c e e₁))
    (λ e₁. below c 0x10000
    (λ e₂. subst (Encoded c) (sym (three_octets c e₁ e₂)) (encode₃ c e₁ e₂ s.plain))
    (λ e₂. subst (Encoded c) (sym (four_octets c e₂)) (encode₄ c e₂ s.below))))

-- each scalar value has exactly one byte string
pub one_string : (c : ℕ) → Scalar c → (s : List ℕ) → (character s ≡ well c (length s)) ↔ (s ≡ octets_of c)
one_string c v s = (
  λ e. sym (take-length s) ∙ its_octets s e,
  λ e.
      let x = encode c v in
      ap character (e ∙ sym (append-nil (octets_of c))) ∙ reads_char x.char [] ∙ ap₂ well x.code (ap length (sym e)),
)

-- a byte below 0x80 is a character of its own
pub ascii : (b : ℕ) (l : List ℕ) → b < 0x80 → character (b ∷ l) ≡ well b 1
unfolding character forms follow
ascii b l h = row_taken (form 0x00 (range 0x00 0x7F) []) _ b l (zero-le, omega arith) ∙ ap (λ (n : ℕ). well n 1) (sub-zero b)

-- valid UTF-8 is read character by character

pub record ValidStep (l : List ℕ) : Type 0 where
  pub code : ℕ
  pub size : ℕ
  pub well : character l ≡ well code size
  pub left : Utf8Octets (drop size l)

-- what is valid is empty, or begins with a character after which the rest is valid
pub valid_step : {l : List ℕ} → Utf8Octets l → (l ≡ []) ⊎ ValidStep l
valid_step none = inl refl
valid_step (next {s} {l} u v) =
    inr (record { code = code_point u.row s; size = length s; well = reads_char u l; left = subst Utf8Octets (sym (drop-append_seam s l)) v })

-- and the other way round
pub step_valid : (l : List ℕ) {c k : ℕ} → character l ≡ well c k → Utf8Octets (drop k l) → Utf8Octets l
step_valid l {c} {k} e v =
    let x = found l e in
    let u : Utf8Char x.octets = record { row = x.row; listed = x.listed; fits = x.fits } in
    let rest : drop k l ≡ x.left = ap (drop k) x.parts ∙ drop_at x.octets x.left k (sym x.count) in
    subst Utf8Octets (sym x.parts) (next u (subst Utf8Octets rest v))
