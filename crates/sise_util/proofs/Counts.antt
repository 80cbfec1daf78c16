-- Document 01's two counts, over all bytes: 80 atom characters and 93 string characters.
-- Assumes nothing.
use mathlib.Core.Path.{◌≡◌, refl}
use mathlib.Core.Bool.{Bool, cond}
use Prim.Native.Nat.{ℕ, zero, suc, ◌+◌}
use Rattle.sise_util.specs.Chars.{is_atom_chr, is_string_chr}

-- how many of the n numbers from b on pass the test
unfoldable pub count_from : (ℕ → Bool) → ℕ → ℕ → ℕ
count_from f b zero = 0
count_from f b (suc n) = cond (f b) 1 0 + count_from f (suc b) n

pub atom_chrs : count_from is_atom_chr 0 256 ≡ 80
unfolding count_from is_atom_chr
atom_chrs = refl

pub string_chrs : count_from is_string_chr 0 256 ≡ 93
unfolding count_from is_string_chr
string_chrs = refl
