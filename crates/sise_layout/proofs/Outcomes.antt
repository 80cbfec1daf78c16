-- What a call of the writer can come to: it is refused and changes nothing, or adds an item, or ends the text. Every induction over calls goes by this view.
-- Assumes nothing.
use Prim.Native.Nat.{ℕ}
use native.Mathlib.Omega.{arith}
use mathlib.Core.Path.{◌≡◌, refl}
use mathlib.Core.Bool.{Bool, true, false}
use mathlib.Core.List.{[], ◌∷◌}
use Rattle.sise_serializer.specs.Serializer.{Style, Piece, Written, refuse, first_atom, first_list, inner, close, last}
use Rattle.sise_serializer.specs.declared.serializer.Phase.TheVariants.{Finished}
use Rattle.sise_serializer.specs.declared.serializer.Serializer.{Serializer}
use Rattle.sise_serializer.specs.Calls.{Call, Item, atom, list_start, list_end, placed, item_at, step}
use Rattle.sise_layout.proofs.Pieces.{Adds, first_atom_lem, first_list_lem, inner_atom, inner_list, close_list}
use Rattle.sise_serializer.proofs.Sound.{Sound}
use Rattle.sise_serializer.proofs.Kept.{piece_kept}
use Rattle.sise_serializer.proofs.Verdicts.{put, Puts, atom_alone, atom_inside, list_first, list_inside, list_closed, text_ended, Verdict, refuses, puts, verdict}

pub data Outcome (s : Style) (room : ℕ) (w : Serializer) (c : Call) : Written → Type 0 where
  same : (n : ℕ) → Outcome s room w c (refuse n w)
  adds : (i : Item) (p : Piece) → Adds s w i p → Sound p.after → ((o : ℕ) → item_at c o ≡ placed i o ∷ []) → Outcome s room w c (put w p)
  ends : (wished : Bool) → w.phase ≡ Finished → Sound (last s w wished).after → ((o : ℕ) → item_at c o ≡ []) → Outcome s room w c (put w (last s w wished))

module _ (s : Style) (room : ℕ) (w : Serializer) (i : Sound w) where
  put_outcome : (c : Call) (p : Piece) → Puts s w c p → Sound p.after → Outcome s room w c (put w p)
  unfolding item_at
  put_outcome c p (atom_alone {a = a} f h) k = adds (atom a) (first_atom w a) (first_atom_lem s w i f a h) k (λ o. refl)
  put_outcome c p (atom_inside {a = a} {t = t} f h) k = adds (atom a) (inner s w a false t) (inner_atom s w t i f a h) k (λ o. refl)
  put_outcome c p (list_first f) k = adds list_start (first_list w) (first_list_lem s w i f) k (λ o. refl)
  put_outcome c p (list_inside {t = t} f) k = adds list_start (inner s w (40 ∷ []) true t) (inner_list s w t i f) k (λ o. refl)
  put_outcome c p (list_closed f) k = adds list_end (close s w) (close_list s w i f) k (λ o. refl)
  put_outcome c p (text_ended {wished = wished} f) k = ends wished f k (λ o. refl)

  of_verdict : (c : Call) (r : Written) → Verdict s room w c r → Outcome s room w c r
  of_verdict c r (refuses n u) = same n
  of_verdict c r (puts p o q) = put_outcome c p o (piece_kept s w i c p o (omega (arith, q)))

  pub outcome : (c : Call) → Outcome s room w c (step s room w c)
  outcome c = of_verdict c (step s room w c) (verdict s room w c)
