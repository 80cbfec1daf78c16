-- What the private functions of the check of an atom do.
-- Assumes nothing.
use Rattle.std.specs.Prelude.{◌≡◌, ℕ, ◌≤◌, ◌<◌, true, false, cond, List, eqb, ltb, length, drop, get_or}
use Rattle.sise_util.specs.Chars.{is_atom_chr}
use Rattle.sise_util.specs.Atom.{outside, inside, ends_string}

-- a string whose inside begins at `from` ends before place r: the bytes behind it decide whether the test passes, and whether it is the last of s
pub record StringTo (s : List ℕ) (from r : ℕ) : Type 0 where
  pub on : from < r
  pub within : r ≤ length s
  pub same : outside (drop r s) ≡ inside (drop from s)
  pub whole : ends_string (drop from s) ≡ eqb r (length s)

-- the first n bytes are atom characters
abbrev pub PlainTo : List ℕ → ℕ → Type 0
PlainTo s n = (n ≤ length s) × ((i : ℕ) → i < n → is_atom_chr (get_or s i 0) ≡ true)

-- no atom character stands at n
abbrev pub StopsAt : List ℕ → ℕ → Type 0
StopsAt s n = n < length s → is_atom_chr (get_or s n 0) ≡ false

-- 64 bits, one for each byte up to 63, or from 64 to 127: whether it is an atom character
unfoldable pub mask_of : ℕ → ℕ
mask_of b = cond (ltb b 64) 0xF7FFEC7A00000000 0x47FFFFFE87FFFFFF
