-- The test of an atom says yes exactly on the grammar's byte strings; and its equations by the character tests, which the code makes.
-- Assumes nothing.
use mathlib.Core.Path.{◌≡◌, refl, sym, ap, ◌∙◌, subst}
use mathlib.Core.Bool.{Bool, true, false, cond, ◌||◌, false≢true}
use mathlib.Core.Logic.{◌⊎◌, inl, inr, ⊎_elim, ◌↔◌}
use mathlib.Core.List.{List, [], ◌∷◌, ◌++◌, append_assoc, append-nil}
use Prim.Native.Nat.{ℕ, zero, suc, ◌≤◌}
use native.Mathlib.Omega.{arith}
use lib.ListN.{length, take, drop, length-append}
use lib.Dec.{eqb}
use borrow.Author.Tests.{eqb-true}
use Rattle.sise_util.specs.Chars.{is_atom_chr, is_string_chr, is_escaped_chr}
use Rattle.sise_util.specs.Classes.{Class, space, quote, tab, atom_chr, line_end, backslash, other, semicolon, left, right, printable, class_of}
use Rattle.sise_util.specs.Atom.{Inside, empty, chr, escape, Part, single, string, Atom, one, more, outside, inside, escaped, is_atom, all_atom_chrs}
use Rattle.sise_util.proofs.Ranges.{split, and_first, and_second}
use Rattle.sise_util.proofs.ClassLaws.{among, string_classes, atom_class, string_class, quote_class, backslash_class}

-- the test's rules by the classes are these by the character tests
module _ (b : ℕ) (l : List ℕ) where
  pub outside_cons : outside (b ∷ l) ≡ cond (eqb b 34) (inside l) (cond (is_atom_chr b) (outside l) false)
  unfolding outside among
  outside_cons = rw (quote_class b, atom_class b) (go (class_of b) refl)
    where
      go : (c : Class) → class_of b ≡ c → outside (b ∷ l) ≡ cond (among (quote ∷ []) (class_of b)) (inside l) (cond (among (atom_chr ∷ []) (class_of b)) (outside l) false)
      go space e = rw (e, outside)
      go quote e = rw (e, outside)
      go tab e = rw (e, outside)
      go atom_chr e = rw (e, outside)
      go line_end e = rw (e, outside)
      go backslash e = rw (e, outside)
      go other e = rw (e, outside)
      go semicolon e = rw (e, outside)
      go left e = rw (e, outside)
      go right e = rw (e, outside)
      go printable e = rw (e, outside)

  pub inside_cons : inside (b ∷ l) ≡ cond (eqb b 34) (outside l) (cond (eqb b 92) (escaped l) (cond (is_string_chr b) (inside l) false))
  unfolding inside among
  inside_cons = rw (quote_class b, backslash_class b, string_class b) (go (class_of b) refl)
    where
      go : (c : Class) → class_of b ≡ c → inside (b ∷ l) ≡ cond (among (quote ∷ []) (class_of b)) (outside l) (cond (among (backslash ∷ []) (class_of b)) (escaped l) (cond (among string_classes (class_of b)) (inside l) false))
      go space e = rw (e, inside)
      go quote e = rw (e, inside)
      go tab e = rw (e, inside)
      go atom_chr e = rw (e, inside)
      go line_end e = rw (e, inside)
      go backslash e = rw (e, inside)
      go other e = rw (e, inside)
      go semicolon e = rw (e, inside)
      go left e = rw (e, inside)
      go right e = rw (e, inside)
      go printable e = rw (e, inside)

  pub escaped_cons : escaped (b ∷ l) ≡ cond (eqb b 34) (inside l) (cond (eqb b 92) (inside l) (cond (is_string_chr b) (inside l) false))
  unfolding escaped among
  escaped_cons = rw (quote_class b, backslash_class b, string_class b) (go (class_of b) refl)
    where
      go : (c : Class) → class_of b ≡ c → escaped (b ∷ l) ≡ cond (among (quote ∷ []) (class_of b)) (inside l) (cond (among (backslash ∷ []) (class_of b)) (inside l) (cond (among string_classes (class_of b)) (inside l) false))
      go space e = rw (e, escaped)
      go quote e = rw (e, escaped)
      go tab e = rw (e, escaped)
      go atom_chr e = rw (e, escaped)
      go line_end e = rw (e, escaped)
      go backslash e = rw (e, escaped)
      go other e = rw (e, escaped)
      go semicolon e = rw (e, escaped)
      go left e = rw (e, escaped)
      go right e = rw (e, escaped)
      go printable e = rw (e, escaped)

-- what may follow \, test by test
pub escaped_chr : (b : ℕ) → is_escaped_chr b ≡ cond (eqb b 34) true (cond (eqb b 92) true (is_string_chr b))
escaped_chr b = meant ∙ by (is_string_chr b) (eqb b 34) (eqb b 92)
  where
    meant : is_escaped_chr b ≡ is_string_chr b || (eqb b 34 || (eqb b 92 || false))
    meant = unfold is_escaped_chr in refl

    by : (s q k : Bool) → s || (q || (k || false)) ≡ cond q true (cond k true s)
    by true true k = refl
    by true false true = refl
    by true false false = refl
    by false true k = refl
    by false false true = refl
    by false false false = refl

pub escaped_one : (b : ℕ) (l : List ℕ) → escaped (b ∷ l) ≡ cond (is_escaped_chr b) (inside l) false
escaped_one b l = escaped_cons b l ∙ by (eqb b 34) (eqb b 92) (is_string_chr b) ∙ rw (escaped_chr b)
  where
    by : (q k s : Bool) → cond q (inside l) (cond k (inside l) (cond s (inside l) false)) ≡ cond (cond q true (cond k true s)) (inside l) false
    by true k s = refl
    by false true s = refl
    by false false s = refl

-- every atom passes

-- b is not n, at which the test f says no
pub not_at : (f : ℕ → Bool) (n b : ℕ) → f n ≡ false → f b ≡ true → eqb b n ≡ false
not_at f n b refused h = split (eqb b n) (λ e. absurd (false≢true (sym refused ∙ ap f (sym (eqb-true b n e)) ∙ h))) (λ e. e)

string_step : (b : ℕ) (l : List ℕ) → is_string_chr b ≡ true → inside (b ∷ l) ≡ inside l
string_step b l h =
    inside_cons b l
    ∙ rw (not_at is_string_chr 34 b (unfold is_string_chr in refl) h, not_at is_string_chr 92 b (unfold is_string_chr in refl) h, h)

escape_step : (b : ℕ) (l : List ℕ) → is_escaped_chr b ≡ true → inside (92 ∷ b ∷ l) ≡ inside l
escape_step b l h = inside_cons 92 (b ∷ l) ∙ escaped_one b l ∙ rw h

atom_step : (b : ℕ) (l : List ℕ) → is_atom_chr b ≡ true → outside (b ∷ l) ≡ outside l
atom_step b l h = outside_cons b l ∙ rw (not_at is_atom_chr 34 b (unfold is_atom_chr in refl) h, h)

inside_part : {s : List ℕ} → Inside s → (l : List ℕ) → inside (s ++ 34 ∷ l) ≡ outside l
inside_part empty l = inside_cons 34 l
inside_part (chr {b} {l = s} h i) l = string_step b (s ++ 34 ∷ l) h ∙ inside_part i l
inside_part (escape {b} {l = s} h i) l = escape_step b (s ++ 34 ∷ l) h ∙ inside_part i l

part_passed : {a : List ℕ} → Part a → (l : List ℕ) → outside (a ++ l) ≡ outside l
part_passed (single {b} h) l = atom_step b l h
part_passed (string {l = s} i) l = outside_cons 34 ((s ++ 34 ∷ []) ++ l) ∙ ap inside (append_assoc s (34 ∷ []) l) ∙ inside_part i l

atom_passes : {a : List ℕ} → Atom a → outside a ≡ true
unfolding outside
atom_passes (one {a} p) = ap outside (sym (append-nil a)) ∙ part_passed p []
atom_passes (more {a} {l} p t) = part_passed p l ∙ atom_passes t

-- what passes is an atom

-- the rest of an atom: outside a string, inside one, after \ in one
abbrev Rest : List ℕ → Type 0
Rest l = (l ≡ []) ⊎ Atom l

record RestInside (l : List ℕ) : Type 0 where
  body : List ℕ
  rest : List ℕ
  inner : Inside body
  parts : l ≡ body ++ 34 ∷ rest
  after : Rest rest

record RestEscaped (l : List ℕ) : Type 0 where
  head : ℕ
  tail : List ℕ
  escapes : is_escaped_chr head ≡ true
  parts : l ≡ head ∷ tail
  after : RestInside tail

-- an atom character, or a string, before the rest
joined : {a : List ℕ} → Part a → (l : List ℕ) → Rest l → Atom (a ++ l)
joined {a} p l r =
    ⊎_elim (λ e. subst (λ (m : List ℕ). Atom (a ++ m)) (sym e) (subst Atom (sym (append-nil a)) (one p))) (λ t. more p t) r

quoted : (b : ℕ) (l : List ℕ) → eqb b 34 ≡ true → RestInside l → Rest (b ∷ l)
quoted b l e r =
    inr (subst Atom (sym whole) (joined (string r.inner) r.rest r.after))
  where
    whole : b ∷ l ≡ (34 ∷ r.body ++ 34 ∷ []) ++ r.rest
    whole = rw (eqb-true b 34 e, r.parts) (ap (λ (m : List ℕ). 34 ∷ m) (sym (append_assoc r.body (34 ∷ []) r.rest)))

closed : (b : ℕ) (l : List ℕ) → eqb b 34 ≡ true → Rest l → RestInside (b ∷ l)
closed b l e r = record { body = []; rest = l; inner = empty; parts = ap (λ (c : ℕ). c ∷ l) (eqb-true b 34 e); after = r }

longer : (b : ℕ) (l : List ℕ) → is_string_chr b ≡ true → RestInside l → RestInside (b ∷ l)
longer b l s r =
    record { body = b ∷ r.body; rest = r.rest; inner = chr s r.inner; parts = ap (λ (m : List ℕ). b ∷ m) r.parts; after = r.after }

escapes_on : (b : ℕ) (l : List ℕ) → eqb b 92 ≡ true → RestEscaped l → RestInside (b ∷ l)
escapes_on b l e r =
    record {
      body = 92 ∷ r.head ∷ r.after.body;
      rest = r.after.rest;
      inner = escape r.escapes r.after.inner;
      parts = rw (eqb-true b 92 e, r.parts) (ap (λ (m : List ℕ). 92 ∷ r.head ∷ m) r.after.parts);
      after = r.after.after;
    }

mutual
  unfolding inside escaped

  outside_rest : (l : List ℕ) → outside l ≡ true → Rest l
  outside_rest [] h = inl refl
  outside_rest (b ∷ l) h =
      let s = sym (outside_cons b l) ∙ h in
      split (eqb b 34)
      (λ e. quoted b l e (inside_rest l (rw e at s)))
      (λ e. split (is_atom_chr b)
      (λ a. inr (joined (single a) l (outside_rest l (rw (e, a) at s))))
      (λ a. absurd (false≢true (rw (e, a) at s))))

  inside_rest : (l : List ℕ) → inside l ≡ true → RestInside l
  inside_rest [] h = absurd (false≢true h)
  inside_rest (b ∷ l) h =
      let s = sym (inside_cons b l) ∙ h in
      split (eqb b 34)
      (λ e. closed b l e (outside_rest l (rw e at s)))
      (λ e. split (eqb b 92)
      (λ k. escapes_on b l k (escaped_rest l (rw (e, k) at s)))
      (λ k. split (is_string_chr b)
      (λ a. longer b l a (inside_rest l (rw (e, k, a) at s)))
      (λ a. absurd (false≢true (rw (e, k, a) at s)))))

  escaped_rest : (l : List ℕ) → escaped l ≡ true → RestEscaped l
  escaped_rest [] h = absurd (false≢true h)
  escaped_rest (b ∷ l) h =
      let s = sym (escaped_one b l) ∙ h in
      split (is_escaped_chr b)
      (λ e. record { head = b; tail = l; escapes = e; parts = refl; after = inside_rest l (rw e at s) })
      (λ e. absurd (false≢true (rw e at s)))

part_positive : {a : List ℕ} → Part a → 1 ≤ length a
part_positive (single h) = omega arith
part_positive (string i) = omega arith

pub atom_positive : {a : List ℕ} → Atom a → 1 ≤ length a
atom_positive (one p) = part_positive p
atom_positive (more {a} {l} p t) = omega (arith, part_positive p, length-append a l)

-- the test says yes exactly on the atoms of the grammar
pub atom_test : (a : List ℕ) → (is_atom a ≡ true) ↔ Atom a
unfolding is_atom
atom_test [] = (λ h. absurd (false≢true h), λ t. absurd (none (atom_positive t)))
  where
    none : 1 ≤ 0 → ⊥
    none h = omega arith
atom_test (b ∷ l) = (λ h. ⊎_elim (λ e. absurd (none (ap length e))) (λ t. t) (outside_rest (b ∷ l) h), atom_passes)
  where
    none : length (b ∷ l) ≡ 0 → ⊥
    none h = omega arith

-- what stands behind atom characters decides
pub plain_passes : (l : List ℕ) (n : ℕ) → all_atom_chrs (take n l) ≡ true → outside (drop n l) ≡ outside l
plain_passes l zero h = refl
plain_passes [] (suc n) h = refl
plain_passes (b ∷ l) (suc n) h =
    plain_passes l n (and_second (is_atom_chr b) (all_atom_chrs (take n l)) h) ∙ sym (atom_step b l (and_first (is_atom_chr b) (all_atom_chrs (take n l)) h))
