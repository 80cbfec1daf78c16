-- `sise_util::is_atom_chr` meets its contract: the definition is computed over the ranges of the arms, and over what they leave out.
use Prim.Native.Nat.{ℕ, ◌≤◌, ◌<◌}
use mathlib.Core.Path.{◌≡◌}
use mathlib.Core.Bool.{true, false}
use mathlib.Core.Logic.{⊎_elim}
use native.Mathlib.Omega.{arith}
use lib.Dec.{ltb}
use borrow.Author.Tests.{ltb-true, ltb-false}
use Rattle.sise_util.specs.Chars.{is_atom_chr}
use Rattle.sise_util.proofs.Ranges.{split, valued, valued_but}
use Rattle.sise_util.proofs.util.is_atom_chr.Goals as goal

-- past the marks below `-`: no digit, letter or mark
none : (b : ℕ) → 44 ≤ b → b < 256 → (45 ≤ b → b ≤ 58 → ⊥) → (60 ≤ b → b ≤ 90 → ⊥) → (97 ≤ b → b ≤ 122 → ⊥) → (b ≡ 95 → ⊥) → (b ≡ 126 → ⊥) → false ≡ is_atom_chr b
none b lo hi p q r u t =
    upto 45 (λ l. valued is_atom_chr false 44 1 (unfold is_atom_chr in tt) lo l) (λ a.
    upto 59 (λ l. absurd (p a (omega arith))) (λ d.
    upto 60 (λ l. valued is_atom_chr false 59 1 (unfold is_atom_chr in tt) d l) (λ e.
    upto 91 (λ l. absurd (q e (omega arith))) (λ f.
    upto 97 (λ l. valued_but is_atom_chr false 95 91 6 (unfold is_atom_chr in tt) (unfold is_atom_chr in tt) u f l) (λ g.
    upto 123 (λ l. absurd (r g (omega arith))) (λ h.
    valued_but is_atom_chr false 126 123 133 (unfold is_atom_chr in tt) (unfold is_atom_chr in tt) t h hi))))))
  where
    upto : (n : ℕ) → (b < n → false ≡ is_atom_chr b) → (n ≤ b → false ≡ is_atom_chr b) → false ≡ is_atom_chr b
    upto n f g = split (ltb b n) (λ e. f (ltb-true b n e)) (λ e. g (ltb-false b n e))

pub returns-in-97-to-122 : goal.returns-in-97-to-122
returns-in-97-to-122 c = valued is_atom_chr true 97 26 (unfold is_atom_chr in tt) (omega arith) (omega arith)

pub returns-in-45 : goal.returns-in-45
returns-in-45 c = valued is_atom_chr true 45 14 (unfold is_atom_chr in tt) (omega arith) (omega arith)

pub returns-in-60 : goal.returns-in-60
returns-in-60 c = valued is_atom_chr true 60 31 (unfold is_atom_chr in tt) (omega arith) (omega arith)

pub returns-in_default-matches : goal.returns-in_default-matches
returns-in_default-matches c = valued_but is_atom_chr false 33 0 35 (unfold is_atom_chr in tt) (unfold is_atom_chr in tt) (grind arith) (omega arith) (omega arith)

pub returns-in_default-matches-2 : goal.returns-in_default-matches-2
returns-in_default-matches-2 c = valued is_atom_chr false 39 3 (unfold is_atom_chr in tt) (omega arith) (omega arith)

pub returns-in_default-matches-3 : goal.returns-in_default-matches-3
returns-in_default-matches-3 c = none c.args.chr (omega arith) (omega arith) (λ lo hi. grind arith) (λ lo hi. grind arith) (λ lo hi. grind arith) (grind arith) (grind arith)

pub returns-in-33 : goal.returns-in-33
returns-in-33 c =
    ⊎_elim
    (λ e. valued is_atom_chr true 33 1 (unfold is_atom_chr in tt) (omega arith) (omega arith))
    (⊎_elim
    (λ e. valued is_atom_chr true 95 1 (unfold is_atom_chr in tt) (omega arith) (omega arith))
    (λ e. valued is_atom_chr true 126 1 (unfold is_atom_chr in tt) (omega arith) (omega arith)))
    c.in-33.is

pub returns-in-33-2 : goal.returns-in-33-2
returns-in-33-2 c = valued is_atom_chr true 35 4 (unfold is_atom_chr in tt) (omega arith) (omega arith)

pub returns-in-33-3 : goal.returns-in-33-3
returns-in-33-3 c = valued is_atom_chr true 42 2 (unfold is_atom_chr in tt) (omega arith) (omega arith)
