-- `sise_util::is_atom_string_chr` meets its contract: each way through the `match` ends in a range of bytes, over which the definition is computed.
use Prim.Native.Nat.{ℕ, ◌≤◌, ◌<◌}
use mathlib.Core.Path.{◌≡◌}
use mathlib.Core.Bool.{true, false}
use mathlib.Core.Logic.{⊎_elim}
use native.Mathlib.Omega.{arith}
use lib.Dec.{ltb}
use borrow.Author.Tests.{ltb-true, ltb-false}
use Rattle.sise_util.specs.Chars.{is_string_chr}
use Rattle.sise_util.proofs.Ranges.{split, valued, valued_but}
use Rattle.sise_util.proofs.util.is_atom_string_chr.Goals as goal

-- 0x20 to 0x7E but " and \, on both sides of \
printable : (b : ℕ) → (b ≡ 34 → ⊥) → (b ≡ 92 → ⊥) → 32 ≤ b → b < 127 → true ≡ is_string_chr b
printable b q k lo hi =
    split (ltb b 92)
    (λ e. valued_but is_string_chr true 34 32 60 (unfold is_string_chr in tt) (unfold is_string_chr in tt) q lo (omega (arith, ltb-true)))
    (λ e. valued_but is_string_chr true 92 92 35 (unfold is_string_chr in tt) (unfold is_string_chr in tt) k (omega (arith, ltb-false)) (omega arith))

pub returns-in-34 : goal.returns-in-34
returns-in-34 c =
    ⊎_elim
    (λ e. valued is_string_chr false 34 1 (unfold is_string_chr in tt) (omega arith) (omega arith))
    (λ e. valued is_string_chr false 92 1 (unfold is_string_chr in tt) (omega arith) (omega arith))
    c.in-34.is

pub returns-in-32-to-126 : goal.returns-in-32-to-126
returns-in-32-to-126 c = printable _ (grind arith) (grind arith) (omega arith) (omega arith)

pub returns-in_default : goal.returns-in_default
returns-in_default c = valued is_string_chr false 0 32 (unfold is_string_chr in tt) (omega arith) (omega arith)

pub returns-in_default-2 : goal.returns-in_default-2
returns-in_default-2 c = valued is_string_chr false 127 129 (unfold is_string_chr in tt) (omega arith) (omega arith)
