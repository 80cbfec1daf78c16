-- A run of atom characters at the beginning of some bytes: one byte more, what follows of it, and the whole.
-- Assumes nothing.
use mathlib.Core.Path.{◌≡◌, refl, sym, ap, ◌∙◌}
use mathlib.Core.Bool.{true, false}
use mathlib.Core.List.{List, [], ◌∷◌}
use Prim.Native.Nat.{ℕ, zero, suc, ◌≤◌}
use lib.Dec.{eqb}
use native.Mathlib.Omega.{arith}
use lib.ListN.{length, take, drop, drop_of_length-le}
use lib.Seq.{take-length}
use Rattle.sise_util.specs.Chars.{is_atom_chr}
use Rattle.sise_util.specs.Atom.{outside, is_atom, all_atom_chrs, has_quote, is_string, kind_of}
use Rattle.std.specs.Prelude.{Some}
use Rattle.sise_util.specs.declared.util.AtomKind.TheVariants.{Plain}
use Rattle.sise_util.specs.Parts.{PlainTo}
use Rattle.sise_util.proofs.Ranges.{both, and_first, and_second}
use Rattle.sise_util.proofs.AtomLaws.{not_at, plain_passes}
use Rattle.sise_util.proofs.KindLaws.{kind_plain}

-- a `"` is no atom character
no_quote : (b : ℕ) → is_atom_chr b ≡ true → eqb b 34 ≡ false
no_quote b h = not_at is_atom_chr 34 b (unfold is_atom_chr in refl) h

pub run_chrs : (s : List ℕ) (n : ℕ) → PlainTo s n → all_atom_chrs (take n s) ≡ true
run_chrs s zero p = refl
run_chrs [] (suc n) p = refl
run_chrs (b ∷ l) (suc n) p = both (is_atom_chr b) (all_atom_chrs (take n l)) (p.1 0 (omega arith)) (run_chrs l n (omega (arith, p.0), λ i h. p.1 (suc i) (omega arith)))

-- a `"` can only stand behind them
pub quotes_after : (s : List ℕ) (n : ℕ) → all_atom_chrs (take n s) ≡ true → has_quote s ≡ has_quote (drop n s)
unfolding has_quote
quotes_after s zero h = refl
quotes_after [] (suc n) h = refl
quotes_after (b ∷ l) (suc n) h = rw (no_quote b (and_first (is_atom_chr b) (all_atom_chrs (take n l)) h)) (quotes_after l n (and_second (is_atom_chr b) (all_atom_chrs (take n l)) h))

-- and what begins with one is no string
pub no_string : (s : List ℕ) (n : ℕ) → all_atom_chrs (take n s) ≡ true → (n ≡ 0 → ⊥) → is_string s ≡ false
unfolding is_string
no_string s zero h z = absurd (z refl)
no_string [] (suc n) h z = refl
no_string (b ∷ l) (suc n) h z = rw (no_quote b (and_first (is_atom_chr b) (all_atom_chrs (take n l)) h))

pub some_atom : (s : List ℕ) → (length s ≡ 0 → ⊥) → outside s ≡ is_atom s
unfolding is_atom
some_atom [] h = absurd (h refl)
some_atom (b ∷ l) h = refl

-- atom characters alone, one or more, are a plain atom
pub all_plain : (s : List ℕ) → (length s ≡ 0 → ⊥) → all_atom_chrs s ≡ true → Some Plain ≡ kind_of s
unfolding outside has_quote
all_plain s h a =
    let c = ap all_atom_chrs (take-length s) ∙ a in
    let all : length s ≤ length s = omega arith in
    let none = drop_of_length-le s all in
    kind_plain s (sym (some_atom s h) ∙ sym (plain_passes s (length s) c) ∙ ap outside none) (quotes_after s (length s) c ∙ ap has_quote none)

pub plain_all : (s : List ℕ) (n : ℕ) → PlainTo s n → length s ≤ n → (length s ≡ 0 → ⊥) → Some Plain ≡ kind_of s
plain_all s n p h z =
    let e : n ≡ length s = omega (arith, p.0) in
    all_plain s z (sym (ap all_atom_chrs (ap (λ (m : ℕ). take m s) e ∙ take-length s)) ∙ run_chrs s n p)
