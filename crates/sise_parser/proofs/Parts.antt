-- A part that lies in the text is those bytes, and one that does not is empty.
-- Assumes nothing.
use Prim.Native.Nat.{ℕ, ◌+◌, ◌-◌, ◌≤◌, ◌<◌}
use native.Mathlib.Omega.{arith}
use mathlib.Core.Path.{◌≡◌, refl, sym, ap, ◌∙◌}
use mathlib.Core.List.{List, []}
use lib.ListN.{length, take, drop, length-drop}
use Rattle.std.proofs.Math.Seq.{take-length}
use Rattle.std.specs.List.{slice_range}
use borrow.Author.Tests.{le-leb, lt-leb}
use Rattle.sise_parser.specs.Reader.{part_of}

module _ (text : List ℕ) (p n : ℕ) where
  pub part_inside : p + n ≤ length text → part_of text p n ≡ take n (drop p text)
  unfolding part_of
  part_inside h = rw (le-leb (p + n) (length text) h, part_of)

  pub part_outside : length text < p + n → part_of text p n ≡ []
  unfolding part_of
  part_outside h = rw (lt-leb (p + n) (length text) h, part_of)

  -- by its two ends
  pub part_by_ends : p + n ≤ length text → take (p + n - p) (drop p text) ≡ part_of text p n
  part_by_ends h = let size : p + n - p ≡ n = omega arith in ap (λ (k : ℕ). take k (drop p text)) size ∙ sym (part_inside h)

  -- the rest of the text from p on
  rest_all : slice_range text p (length text) ≡ drop p text
  rest_all = rw (sym (length-drop p text), take-length) refl

  -- as the code takes it: the first bytes of the rest
  module _ {rest : List ℕ} (h : p ≤ length text) (r : rest ≡ slice_range text p (length text)) where
    is_rest : rest ≡ drop p text
    is_rest = r ∙ rest_all

    left : length rest ≡ length text - p
    left = ap length is_rest ∙ length-drop p text

    pub part_got : n ≤ length rest → slice_range rest 0 n ≡ part_of text p n
    part_got k = let size : n - 0 ≡ n = omega arith in ap (λ (m : ℕ). take m rest) size ∙ ap (take n) is_rest ∙ sym (part_inside (omega (arith, left, k, h)))

    pub part_past : length rest < n → [] ≡ part_of text p n
    part_past k = sym (part_outside (omega (arith, left, k, h)))
