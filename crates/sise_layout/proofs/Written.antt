-- The end of a text: a last break, or nothing.
-- Assumes nothing.
use Prim.Native.Nat.{ℕ, ◌+◌}
use native.Mathlib.Omega.{arith}
use mathlib.Core.Path.{◌≡◌, refl, ap, ◌∙◌}
use mathlib.Core.Bool.{Bool, true, false}
use mathlib.Core.List.{List, [], ◌++◌, append_assoc}
use lib.ListN.{length}
use Rattle.sise_serializer.specs.Serializer.{Style, last}
use Rattle.sise_serializer.specs.declared.serializer.Phase.TheVariants.{Done}
use Rattle.sise_serializer.specs.declared.serializer.Serializer.{Serializer}
use Rattle.sise_layout.specs.Texts.{all_blank, Blank}
unfoldable pub use Rattle.sise_layout.specs.Rules.{writes}
use Rattle.sise_layout.proofs.Lexing.{stops}
use Rattle.sise_layout.proofs.Blanks.{append-blank, blanks_stop}
use Rattle.sise_layout.proofs.Pieces.{layout_of}

module _ (s : Style) (w : Serializer) where
  pub last-blank : (wished : Bool) → Blank s → all_blank ((last s w wished).layout ++ (last s w wished).token) ≡ true
  unfolding last
  last-blank true b = append-blank s.line_break [] b.line_break refl
  last-blank false b = refl

  pub last_done : (wished : Bool) → (last s w wished).after.phase ≡ Done
  unfolding last
  last_done wished = refl

  pub last-lists : (wished : Bool) → (last s w wished).after.lists ≡ w.lists
  unfolding last
  last-lists wished = refl

  pub last-stops : (wished : Bool) (r : List ℕ) → Blank s → stops r ≡ true → stops ((last s w wished).layout ++ (last s w wished).token ++ r) ≡ true
  unfolding last
  last-stops true r b h = ap stops (append_assoc s.line_break [] r) ∙ blanks_stop s.line_break r b.line_break b.not_empty
  last-stops false r b h = h

  pub last-paid : (wished : Bool) → length (last s w wished).layout + length (last s w wished).token + layout_of s w ≡ layout_of s (last s w wished).after
  unfolding last
  last-paid true = omega arith
  last-paid false = omega arith
