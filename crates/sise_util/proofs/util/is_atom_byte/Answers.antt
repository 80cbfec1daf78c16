-- Each bit of the masks is the definition's answer, which is computed at every byte.
use Prim.Native.Nat.{ℕ, ◌/◌, ◌%◌, ◌^◌, ◌≤◌, ◌<◌, zero-le}
use native.Mathlib.Omega.{arith}
use mathlib.Core.Path.{◌≡◌, ap, ◌∙◌}
use mathlib.Core.Bool.{Bool, false, beq}
use lib.Dec.{eqb}
use borrow.Author.Rules.{rules}
use Rattle.sise_util.specs.Chars.{is_atom_chr}
use Rattle.sise_util.specs.Parts.{mask_of}
use Rattle.sise_util.proofs.Ranges.{ranged, same_bool}
use Rattle.sise_util.proofs.util.is_atom_byte.Goals as goal

-- the bit of b in the mask m
abbrev bit : ℕ → ℕ → Bool
bit m b = eqb (m / 2 ^ (b % 64) % 2) 1

same : (b : ℕ) → b < 128 → bit (mask_of b) b ≡ is_atom_chr b
same b h = same_bool (is_atom_chr b) (bit (mask_of b) b) (ranged (λ b. beq (is_atom_chr b) (bit (mask_of b) b)) 0 128 (unfold is_atom_chr mask_of in tt) b zero-le (omega arith))

none : (b : ℕ) → 128 ≤ b → b < 256 → false ≡ is_atom_chr b
none b h k = same_bool (is_atom_chr b) false (ranged (λ b. beq (is_atom_chr b) false) 128 128 (unfold is_atom_chr in tt) b h (omega arith))

pub returns-then-byte-ge128 : goal.returns-then-byte-ge128
returns-then-byte-ge128 c = none c.args.byte c.if-byte-ge128.true (omega arith)

pub mask_of-requires : goal.mask_of-requires
mask_of-requires c = search rules

pub overflow_cast-result : goal.overflow_cast-result
overflow_cast-result c = search rules

pub overflow_shr-result : goal.overflow_shr-result
overflow_shr-result c = search rules

pub returns : goal.returns
returns c =
    let b = c.args.byte in
    ap (λ (m : ℕ). bit m b) c.mask_of.ensures ∙ same b (omega (arith, c.if-byte-ge128.false))
