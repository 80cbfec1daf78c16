-- The class table has each byte's class, and the classes follow the character sets: the table's rule against the cases of `is_atom_chr`.
-- Assumes nothing.
use mathlib.Core.Path.{◌≡◌, refl, sym, ap, ◌∙◌}
use mathlib.Core.Bool.{Bool, true, false, ◌&&◌, beq}
use mathlib.Core.List.{List, [], ◌∷◌, map}
use Prim.Native.Nat.{ℕ, zero, suc, ◌+◌, ◌≤◌, ◌<◌, zero-le}
use native.Mathlib.Nat.{add-zero, add-suc, suc-add, zero-add, not-suc-le-zero, le_of_suc-le-suc}
use native.Mathlib.Omega.{arith}
use lib.Dec.{T, eqb, leb, ltb, ltb→lt}
use lib.ListN.{get_or}
use borrow.Author.Tests.{ne_eqb, lt-leb, ltb-true, ltb-false}
use Rattle.sise_util.specs.Chars.{within, one_of, marks, is_atom_chr, is_string_chr}
use Rattle.sise_util.specs.Classes.{Class, space, quote, atom_chr, backslash, other, semicolon, left, right, printable, class_of, class_number, classes_from, class_table}
use Rattle.sise_util.proofs.Ranges.{split, and_left, and_right, all_from, ranged, same_bool}

from : (n lo k : ℕ) → k < n → get_or (classes_from n lo) k 0 ≡ class_number (class_of (lo + k))
unfolding classes_from
from zero lo k h = absurd (not-suc-le-zero h)
from (suc n) lo zero h = ap (λ (m : ℕ). class_number (class_of m)) (sym (add-zero lo))
from (suc n) lo (suc k) h = from n (suc lo) k (le_of_suc-le-suc h) ∙ ap (λ (m : ℕ). class_number (class_of m)) (suc-add lo k ∙ sym (add-suc lo k))

-- the rule of the table, at each byte
pub table_rule : (b : ℕ) → b < 256 → get_or class_table b 0 ≡ class_number (class_of b)
unfolding class_table
table_rule b h = from 256 0 b h ∙ ap (λ (m : ℕ). class_number (class_of m)) (zero-add b)

-- past 0x7E

abbrev all127 : List ℕ → Bool
all127 [] = true
all127 (n ∷ l) = ltb n 127 && all127 l

and_false : (a : Bool) → a && false ≡ false
and_false true = refl
and_false false = refl

no_eqb : (n b : ℕ) → T (ltb n 127) → 127 ≤ b → eqb b n ≡ false
no_eqb n b t h = ne_eqb b n (λ e. below (ltb→lt n 127 t) e)
  where
    below : n < 127 → b ≡ n → ⊥
    below k e = omega arith

no_within : (lo hi b : ℕ) → T (ltb hi 127) → 127 ≤ b → within lo hi b ≡ false
unfolding within
no_within lo hi b t h = ap (λ (x : Bool). leb lo b && x) (lt-leb b hi (below (ltb→lt hi 127 t))) ∙ and_false (leb lo b)
  where
    below : hi < 127 → hi < b
    below k = omega arith

no_one_of : (l : List ℕ) (b : ℕ) → T (all127 l) → 127 ≤ b → one_of l b ≡ false
unfolding one_of
no_one_of [] b t h = refl
no_one_of (n ∷ l) b t h = rw (no_eqb n b (and_left (ltb n 127) (all127 l) t) h) (no_one_of l b (and_right (ltb n 127) (all127 l) t) h)

pub no_atom_chr : (b : ℕ) → 127 ≤ b → is_atom_chr b ≡ false
unfolding is_atom_chr
no_atom_chr b h = rw (no_one_of marks b (unfold marks in tt) h, no_within 48 57 b tt h, no_within 65 90 b tt h, no_within 97 122 b tt h)

no_string_chr : (b : ℕ) → 127 ≤ b → is_string_chr b ≡ false
unfolding is_string_chr
no_string_chr b h = rw (no_within 0x20 0x7E b tt h)

pub no_class : (b : ℕ) → 127 ≤ b → class_of b ≡ other
unfolding class_of
no_class b h =
    rw (no_eqb 32 b tt h, no_eqb 9 b tt h, no_one_of (10 ∷ 13 ∷ []) b tt h, no_eqb 59 b tt h, no_eqb 40 b tt h, no_eqb 41 b tt h, no_eqb 34 b tt h, no_eqb 92 b tt h, no_atom_chr b h, no_within 0x20 0x7E b tt h)

-- c is one of the classes
unfoldable pub among : List Class → Class → Bool
unfolding one_of class_number
among cs c = one_of (map class_number cs) (class_number c)

-- string characters by their classes
abbrev pub string_classes : List Class
string_classes = space ∷ atom_chr ∷ semicolon ∷ left ∷ right ∷ printable ∷ []

-- two tests of every number agree, if they do up to 0x7E, which antt computes, and past it
agree : (f g : ℕ → Bool) → T (all_from (λ b. beq (g b) (f b)) 0 127) → ((b : ℕ) → 127 ≤ b → f b ≡ g b) → (b : ℕ) → f b ≡ g b
agree f g t high b =
    split (ltb b 127)
    (λ e. same_bool (g b) (f b) (ranged (λ b. beq (g b) (f b)) 0 127 t b zero-le (omega (arith, ltb-true))))
    (λ e. high b (ltb-false b 127 e))

pub atom_class : (b : ℕ) → is_atom_chr b ≡ among (atom_chr ∷ []) (class_of b)
atom_class =
    agree is_atom_chr (λ b. among (atom_chr ∷ []) (class_of b)) (unfold is_atom_chr class_of among in tt)
    (λ b h. no_atom_chr b h ∙ sym (ap (among (atom_chr ∷ [])) (no_class b h) ∙ (unfold among in refl)))

pub string_class : (b : ℕ) → is_string_chr b ≡ among string_classes (class_of b)
string_class =
    agree is_string_chr (λ b. among string_classes (class_of b)) (unfold is_string_chr class_of among in tt)
    (λ b h. no_string_chr b h ∙ sym (ap (among string_classes) (no_class b h) ∙ (unfold among in refl)))

pub quote_class : (b : ℕ) → eqb b 34 ≡ among (quote ∷ []) (class_of b)
quote_class =
    agree (λ b. eqb b 34) (λ b. among (quote ∷ []) (class_of b)) (unfold class_of among in tt)
    (λ b h. no_eqb 34 b tt h ∙ sym (ap (among (quote ∷ [])) (no_class b h) ∙ (unfold among in refl)))

pub backslash_class : (b : ℕ) → eqb b 92 ≡ among (backslash ∷ []) (class_of b)
backslash_class =
    agree (λ b. eqb b 92) (λ b. among (backslash ∷ []) (class_of b)) (unfold class_of among in tt)
    (λ b h. no_eqb 92 b tt h ∙ sym (ap (among (backslash ∷ [])) (no_class b h) ∙ (unfold among in refl)))

-- a test of bytes that says whether the class has the number m: computed up to 0x7E, and false past it
by_number_lem : (f : ℕ → Bool) (m : ℕ) → T (all_from (λ b. beq (eqb (class_number (class_of b)) m) (f b)) 0 127) → ((b : ℕ) → 127 ≤ b → f b ≡ false)
    → eqb 6 m ≡ false → (b : ℕ) → f b ≡ eqb (class_number (class_of b)) m
by_number_lem f m t high no6 =
    agree f (λ b. eqb (class_number (class_of b)) m) t (λ b h. high b h ∙ sym (ap (λ (c : Class). eqb (class_number c) m) (no_class b h) ∙ other_number ∙ no6))
  where
    other_number : eqb (class_number other) m ≡ eqb 6 m
    other_number = unfold class_number in refl

pub space_number : (b : ℕ) → eqb b 32 ≡ eqb (class_number (class_of b)) 0
space_number = by_number_lem (λ b. eqb b 32) 0 (unfold class_of class_number in tt) (λ b h. no_eqb 32 b tt h) refl

pub tab_number : (b : ℕ) → eqb b 9 ≡ eqb (class_number (class_of b)) 2
tab_number = by_number_lem (λ b. eqb b 9) 2 (unfold class_of class_number in tt) (λ b h. no_eqb 9 b tt h) refl

pub line_end_number : (b : ℕ) → one_of (10 ∷ 13 ∷ []) b ≡ eqb (class_number (class_of b)) 4
line_end_number = by_number_lem (one_of (10 ∷ 13 ∷ [])) 4 (unfold class_of class_number in tt) (λ b h. no_one_of (10 ∷ 13 ∷ []) b tt h) refl

pub semicolon_number : (b : ℕ) → eqb b 59 ≡ eqb (class_number (class_of b)) 7
semicolon_number = by_number_lem (λ b. eqb b 59) 7 (unfold class_of class_number in tt) (λ b h. no_eqb 59 b tt h) refl

pub left_number : (b : ℕ) → eqb b 40 ≡ eqb (class_number (class_of b)) 8
left_number = by_number_lem (λ b. eqb b 40) 8 (unfold class_of class_number in tt) (λ b h. no_eqb 40 b tt h) refl

pub right_number : (b : ℕ) → eqb b 41 ≡ eqb (class_number (class_of b)) 9
right_number = by_number_lem (λ b. eqb b 41) 9 (unfold class_of class_number in tt) (λ b h. no_eqb 41 b tt h) refl

pub quote_number : (b : ℕ) → eqb b 34 ≡ eqb (class_number (class_of b)) 1
quote_number = by_number_lem (λ b. eqb b 34) 1 (unfold class_of class_number in tt) (λ b h. no_eqb 34 b tt h) refl

pub atom_number : (b : ℕ) → is_atom_chr b ≡ eqb (class_number (class_of b)) 3
atom_number = by_number_lem is_atom_chr 3 (unfold class_of class_number is_atom_chr in tt) no_atom_chr refl
