-- The kinds of atoms against the grammar: plain is an atom with no `"`, a string is a `"`, an inside and a `"`, mixed is every other atom, and no is
-- said exactly where the grammar has no atom.
-- Assumes nothing.
use mathlib.Core.Path.{◌≡◌, refl, sym, ap, ◌∙◌}
use mathlib.Core.Bool.{true, false, false≢true}
use mathlib.Core.Logic.{◌↔◌}
use mathlib.Core.List.{List, [], ◌∷◌, ◌++◌}
use Prim.Native.Nat.{ℕ, ◌≤◌}
use native.Mathlib.Omega.{arith}
use lib.Dec.{eqb, leb}
use lib.ListN.{length, take, drop, length-drop}
use borrow.Author.Tests.{eqb-true, eq-eqb, ne_eqb, eqb-false}
use Rattle.std.specs.Prelude.{Option, Some, None, is_some}
use Rattle.sise_util.specs.Chars.{is_string_chr, is_escaped_chr}
use Rattle.sise_util.specs.Atom.{Inside, empty, chr, escape, string, Atom, one, inside, escaped, is_atom, has_quote, ends_string, ends_escaped, is_string, kind_of, kind_number, kind_prefix, is_atom_prefix}
use Rattle.sise_util.specs.declared.util.AtomKind.{AtomKind}
use Rattle.sise_util.specs.declared.util.AtomKind.TheVariants.{Plain, String, Mixed}
use Rattle.sise_util.proofs.Ranges.{split, and_first, and_second}
use Rattle.sise_util.proofs.AtomLaws.{outside_cons, inside_cons, escaped_one, not_at, atom_test}

-- ---- the definition's cases

module _ (a : List ℕ) where
  pub kind_no : is_atom a ≡ false → None ≡ kind_of a
  unfolding kind_of
  kind_no e = rw e

  module _ (e : is_atom a ≡ true) where
    pub kind_plain : has_quote a ≡ false → Some Plain ≡ kind_of a
    unfolding kind_of
    kind_plain q = rw (e, q)

    pub kind_string : has_quote a ≡ true → is_string a ≡ true → Some String ≡ kind_of a
    unfolding kind_of
    kind_string q s = rw (e, q, s)

    pub kind_mixed : has_quote a ≡ true → is_string a ≡ false → Some Mixed ≡ kind_of a
    unfolding kind_of
    kind_mixed q s = rw (e, q, s)

  -- "Putting an atom needs only whether it is no"
  pub kind_atom : is_some (kind_of a) ≡ is_atom a
  kind_atom =
      split (is_atom a)
      (λ e. split (has_quote a)
      (λ q. split (is_string a) (λ s. ap is_some (sym (kind_string e q s)) ∙ sym e) (λ s. ap is_some (sym (kind_mixed e q s)) ∙ sym e))
      (λ q. ap is_some (sym (kind_plain e q)) ∙ sym e))
      (λ e. ap is_some (sym (kind_no e)) ∙ sym e)

pub kind_prefix_lem : (rest : List ℕ) (n : ℕ) → is_some (kind_prefix rest n) ≡ is_atom_prefix rest n
unfolding kind_prefix is_atom_prefix
kind_prefix_lem rest n = split (leb n (length rest)) (λ e. rw e (kind_atom (take n rest))) (λ e. rw e)

-- no byte is left behind place r exactly if it is the end
pub nothing_left : (r : ℕ) (s : List ℕ) → r ≤ length s → eqb (length (drop r s)) 0 ≡ eqb r (length s)
nothing_left r s h =
    split (eqb r (length s))
    (λ e. rw e (eq-eqb (length (drop r s)) 0 (omega (arith, length-drop r s, eqb-true r (length s) e))))
    (λ e. rw e (ne_eqb (length (drop r s)) 0 (λ (z : length (drop r s) ≡ 0). eqb-false r (length s) e (omega (arith, length-drop r s, h, z)))))

-- ---- the kinds, and what each says

pub data Kinds (a : List ℕ) : Option AtomKind → Type 0 where
  plain : is_atom a ≡ true → has_quote a ≡ false → Kinds a (Some Plain)
  whole : is_atom a ≡ true → has_quote a ≡ true → is_string a ≡ true → Kinds a (Some String)
  mixed : is_atom a ≡ true → has_quote a ≡ true → is_string a ≡ false → Kinds a (Some Mixed)
  none : is_atom a ≡ false → Kinds a None

pub kinds : (a : List ℕ) → Kinds a (kind_of a)
unfolding kind_of
kinds a =
    split (is_atom a)
    (λ e. split (has_quote a) (λ q. split (is_string a) (λ s. rw (e, q, s) (whole e q s)) (λ s. rw (e, q, s) (mixed e q s))) (λ q. rw (e, q) (plain e q)))
    (λ e. rw e (none e))

-- two kinds with two numbers
apart : {A : Type 0} {k l : Option AtomKind} → k ≡ l → (kind_number k ≡ kind_number l → ⊥) → A
apart e f = absurd (f (ap kind_number e))

-- ---- a string of the grammar

abbrev pub StringAtom : List ℕ → Type 0
StringAtom a = (l : List ℕ) × Inside l × (a ≡ 34 ∷ l ++ 34 ∷ [])

-- what is left of one: an inside, and the `"` that ends it
abbrev Ends : List ℕ → Type 0
Ends l = (m : List ℕ) × Inside m × (l ≡ m ++ 34 ∷ [])

no_bytes : (l : List ℕ) → eqb (length l) 0 ≡ true → l ≡ []
no_bytes [] e = refl
no_bytes (b ∷ l) e = absurd (let z = eqb-true (length (b ∷ l)) 0 e in omega arith)

longer : (b : ℕ) {l : List ℕ} → is_string_chr b ≡ true → Ends l → Ends (b ∷ l)
longer b h (m, i, e) = (b ∷ m, chr h i, ap (λ (k : List ℕ). b ∷ k) e)

escapes : (b c : ℕ) {l : List ℕ} → eqb b 92 ≡ true → is_escaped_chr c ≡ true → Ends l → Ends (b ∷ c ∷ l)
escapes b c k h (m, i, e) = (92 ∷ c ∷ m, escape h i, rw (eqb-true b 92 k) (ap (λ (k : List ℕ). 92 ∷ c ∷ k) e))

mutual
  unfolding inside escaped ends_string ends_escaped

  string_ends : (l : List ℕ) → inside l ≡ true → ends_string l ≡ true → Ends l
  string_ends [] h w = absurd (false≢true h)
  string_ends (b ∷ l) h w =
      let s = sym (inside_cons b l) ∙ h in
      split (eqb b 34)
      (λ e. ([], empty, rw (eqb-true b 34 e, no_bytes l (rw e at w)) refl))
      (λ e. split (eqb b 92)
      (λ k. escaped_ends b l k (rw (e, k) at s) (rw (e, k) at w))
      (λ k. split (is_string_chr b)
      (λ a. longer b a (string_ends l (rw (e, k, a) at s) (rw (e, k) at w)))
      (λ a. absurd (false≢true (rw (e, k, a) at s)))))

  escaped_ends : (b : ℕ) (l : List ℕ) → eqb b 92 ≡ true → escaped l ≡ true → ends_escaped l ≡ true → Ends (b ∷ l)
  escaped_ends b [] k h w = absurd (false≢true h)
  escaped_ends b (c ∷ l) k h w =
      let s = sym (escaped_one c l) ∙ h in
      split (is_escaped_chr c) (λ e. escapes b c k e (string_ends l (rw e at s) w)) (λ e. absurd (false≢true (rw e at s)))

inside_ends : {m : List ℕ} → Inside m → ends_string (m ++ 34 ∷ []) ≡ true
unfolding ends_string ends_escaped
inside_ends empty = refl
inside_ends (chr {b} {l = m} h i) = rw (not_at is_string_chr 34 b (unfold is_string_chr in refl) h, not_at is_string_chr 92 b (unfold is_string_chr in refl) h) (inside_ends i)
inside_ends (escape h i) = inside_ends i

-- the test says yes exactly on the strings of the grammar, among atoms
string_of : (a : List ℕ) → is_atom a ≡ true → is_string a ≡ true → StringAtom a
unfolding is_atom is_string
string_of [] h w = absurd (false≢true h)
string_of (b ∷ l) h w =
    let q = and_first (eqb b 34) (ends_string l) w in
    let (m, i, e) = string_ends l (rw q at (sym (outside_cons b l) ∙ h)) (and_second (eqb b 34) (ends_string l) w) in
    (m, i, ap (λ (x : ℕ). x ∷ l) (eqb-true b 34 q) ∙ ap (λ (k : List ℕ). 34 ∷ k) e)

string_atom : {a : List ℕ} → StringAtom a → (is_atom a ≡ true) × (has_quote a ≡ true) × (is_string a ≡ true)
unfolding has_quote is_string
string_atom (m, i, e) = rw e ((atom_test (34 ∷ m ++ 34 ∷ [])).1 (one (string i)), refl, inside_ends i)

-- ---- both directions

module _ (a : List ℕ) where
  -- "plain (no `"`)"
  pub plain_kind : (kind_of a ≡ Some Plain) ↔ (Atom a × (has_quote a ≡ false))
  plain_kind = (λ e. of (kinds a) e, λ h. sym (kind_plain a ((atom_test a).1 h.0) h.1))
    where
      of : {k : Option AtomKind} → Kinds a k → k ≡ Some Plain → Atom a × (has_quote a ≡ false)
      of (plain h q) e = ((atom_test a).0 h, q)
      of (whole h q s) e = apart e (λ z. omega (arith, z))
      of (mixed h q s) e = apart e (λ z. omega (arith, z))
      of (none h) e = apart e (λ z. omega (arith, z))

  -- "one whole string"
  pub string_kind : (kind_of a ≡ Some String) ↔ StringAtom a
  string_kind = (λ e. of (kinds a) e, λ s. let (h, q, w) = string_atom s in sym (kind_string a h q w))
    where
      of : {k : Option AtomKind} → Kinds a k → k ≡ Some String → StringAtom a
      of (plain h q) e = apart e (λ z. omega (arith, z))
      of (whole h q s) e = string_of a h s
      of (mixed h q s) e = apart e (λ z. omega (arith, z))
      of (none h) e = apart e (λ z. omega (arith, z))

  -- "mixed (any other atom)"
  pub mixed_kind : (kind_of a ≡ Some Mixed) ↔ (Atom a × (has_quote a ≡ true) × (StringAtom a → ⊥))
  mixed_kind = (
    λ e. of (kinds a) e,
    λ h. sym (kind_mixed a ((atom_test a).1 h.0) h.1 (split (is_string a) (λ s. absurd (h.2 (string_of a ((atom_test a).1 h.0) s))) (λ s. s))),
  )
    where
      of : {k : Option AtomKind} → Kinds a k → k ≡ Some Mixed → Atom a × (has_quote a ≡ true) × (StringAtom a → ⊥)
      of (plain h q) e = apart e (λ z. omega (arith, z))
      of (whole h q s) e = apart e (λ z. omega (arith, z))
      of (mixed h q s) e = ((atom_test a).0 h, q, λ t. false≢true (sym s ∙ (string_atom t).2))
      of (none h) e = apart e (λ z. omega (arith, z))

  -- "or no"
  pub no_kind : (kind_of a ≡ None) ↔ (Atom a → ⊥)
  no_kind = (
    λ e. of (kinds a) e,
    λ h. sym (kind_no a (split (is_atom a) (λ e. absurd (h ((atom_test a).0 e))) (λ e. e))),
  )
    where
      of : {k : Option AtomKind} → Kinds a k → k ≡ None → Atom a → ⊥
      of (plain h q) e = apart e (λ z. omega (arith, z))
      of (whole h q s) e = apart e (λ z. omega (arith, z))
      of (mixed h q s) e = apart e (λ z. omega (arith, z))
      of (none h) e = λ t. false≢true (sym h ∙ (atom_test a).1 t)
