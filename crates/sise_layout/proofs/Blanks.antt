-- What the writer puts between two items is blank, and a line break ends an atom.
-- Assumes nothing.
use Prim.Native.Nat.{ℕ, zero, suc, ◌+◌, ◌*◌, ◌<◌}
use native.Mathlib.Omega.{arith}
use mathlib.Core.Path.{◌≡◌, refl}
use mathlib.Core.Bool.{true}
use mathlib.Core.List.{List, [], ◌∷◌, ◌++◌}
use lib.ListN.{length}
use Rattle.sise_serializer.specs.Bytes.{repeat}
use Rattle.sise_serializer.specs.Serializer.{Style, new_line_of}
use Rattle.sise_serializer.proofs.Bytes.{layout_length}
use Rattle.sise_util.proofs.Ranges.{and_first, and_second, both}
use Rattle.sise_layout.specs.Texts.{is_blank, all_blank, Blank}
use Rattle.sise_layout.proofs.Lexing.{stops, blank_stops}

pub append-blank : (a b : List ℕ) → all_blank a ≡ true → all_blank b ≡ true → all_blank (a ++ b) ≡ true
append-blank [] b h k = k
append-blank (c ∷ a) b h k =
    both (is_blank c) (all_blank (a ++ b)) (and_first (is_blank c) (all_blank a) h) (append-blank a b (and_second (is_blank c) (all_blank a) h) k)

repeat_blank : (n : ℕ) (l : List ℕ) → all_blank l ≡ true → all_blank (repeat n l) ≡ true
repeat_blank zero l h = refl
repeat_blank (suc n) l h = append-blank l (repeat n l) h (repeat_blank n l h)

-- blanks, one at least, end an atom
pub blanks_stop : (g r : List ℕ) → all_blank g ≡ true → 0 < length g → stops (g ++ r) ≡ true
blanks_stop [] r h n = absurd (omega arith)
blanks_stop (b ∷ g) r h n = blank_stops b (g ++ r) (and_first (is_blank b) (all_blank g) h)

module _ (s : Style) (n : ℕ) where
  pub new_line-length : length (new_line_of s n) ≡ length s.line_break + n * length s.indentation
  new_line-length = layout_length s.line_break n s.indentation

  pub new_line-blank : Blank s → all_blank (new_line_of s n) ≡ true
  new_line-blank b = append-blank s.line_break (repeat n s.indentation) b.line_break (repeat_blank n s.indentation b.indentation)

  pub new_line-stops : (r : List ℕ) → Blank s → stops (new_line_of s n ++ r) ≡ true
  new_line-stops r b = blanks_stop (new_line_of s n) r (new_line-blank b) (rw new_line-length (omega (arith, b.not_empty)))
