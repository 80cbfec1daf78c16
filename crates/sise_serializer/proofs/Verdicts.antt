-- How a call of the writer is decided, whatever the record: it is refused, or it puts one of six pieces, which fits.
-- Assumes nothing.
use Prim.Native.Nat.{ℕ, ◌+◌, ◌≤◌, min}
use mathlib.Core.Path.{◌≡◌, refl}
use mathlib.Core.Bool.{Bool, true, false, cond, false≢true}
use mathlib.Core.List.{List, [], ◌∷◌, ◌++◌}
use lib.Dec.{leb, eqb}
use lib.ListN.{length}
use borrow.Author.Tests.{leb-true}
use Rattle.sise_util.specs.Atom.{is_atom}
use Rattle.sise_util.proofs.Ranges.{split}
use Rattle.sise_serializer.specs.Serializer.{Style, Piece, Written, accepted, refuse, limit, is_sound, place, first_atom, first_list, inner, close, last, put_in, put_atom, begin_in, begin_list, end_in, end_list, finish_in, finish_writing}
use Rattle.sise_serializer.specs.declared.serializer.Phase.{Phase}
use Rattle.sise_serializer.specs.declared.serializer.Phase.TheVariants.{Beginning, Writing, Finished, Done}
use Rattle.sise_serializer.specs.declared.serializer.Serializer.{Serializer}
use Rattle.sise_serializer.specs.Calls.{Call, put_atom_call, begin_list_call, end_list_call, finish_call, step}

-- where a piece ends
abbrev pub end_of : Serializer → Piece → ℕ
end_of w p = w.position + length p.layout + length p.token

-- a piece that fits
abbrev pub put : Serializer → Piece → Written
put w p = record { serializer = p.after; answer = accepted (w.position + length p.layout); bytes = p.layout ++ p.token }

-- the piece of a call, and when it is that
pub data Puts (s : Style) (w : Serializer) : Call → Piece → Type 0 where
  atom_alone : {a : List ℕ} {t : ℕ} → w.phase ≡ Beginning → is_atom a ≡ true → Puts s w (put_atom_call a t) (first_atom w a)
  atom_inside : {a : List ℕ} {t : ℕ} → w.phase ≡ Writing → is_atom a ≡ true → Puts s w (put_atom_call a t) (inner s w a false t)
  list_first : {t : ℕ} → w.phase ≡ Beginning → Puts s w (begin_list_call t) (first_list w)
  list_inside : {t : ℕ} → w.phase ≡ Writing → Puts s w (begin_list_call t) (inner s w (40 ∷ []) true t)
  list_closed : w.phase ≡ Writing → Puts s w end_list_call (close s w)
  text_ended : {wished : Bool} → w.phase ≡ Finished → Puts s w (finish_call wished) (last s w wished)

pub data Verdict (s : Style) (room : ℕ) (w : Serializer) (c : Call) : Written → Type 0 where
  refuses : (n : ℕ) → (eqb n 11 ≡ true → is_sound w ≡ false) → Verdict s room w c (refuse n w)
  puts : (p : Piece) → Puts s w c p → end_of w p ≤ min room limit → Verdict s room w c (put w p)

-- a number that is not 11
not_11 : {A : Type 0} → false ≡ true → A
not_11 e = absurd (false≢true e)

module _ (s : Style) (room : ℕ) (w : Serializer) where
  fitted : (c : Call) (p : Piece) → Puts s w c p → Verdict s room w c (place room w p)
  unfolding place
  fitted c p o = split (leb (end_of w p) (min room limit)) (λ e. rw e (puts p o (leb-true _ _ e))) (λ e. rw e (refuses 22 not_11))

  -- a call is refused with 11 unless the record is sound
  sound : (c : Call) (x : Written) → Verdict s room w c x → Verdict s room w c (cond (is_sound w) x (refuse 11 w))
  sound c x o = split (is_sound w) (λ e. rw e o) (λ e. rw e (refuses 11 (λ d. e)))

  put_in_lem : (a : List ℕ) (t : ℕ) → is_atom a ≡ true → (f : Phase) → w.phase ≡ f → Verdict s room w (put_atom_call a t) (put_in f s room w a t)
  unfolding put_in
  put_in_lem a t h Beginning f = fitted (put_atom_call a t) (first_atom w a) (atom_alone f h)
  put_in_lem a t h Writing f = fitted (put_atom_call a t) (inner s w a false t) (atom_inside f h)
  put_in_lem a t h Finished f = refuses 19 not_11
  put_in_lem a t h Done f = refuses 19 not_11

  put_atom_lem : (a : List ℕ) (t : ℕ) → Verdict s room w (put_atom_call a t) (put_atom s room w a t)
  unfolding put_atom
  put_atom_lem a t =
      sound (put_atom_call a t) _ (split (is_atom a) (λ h. rw h (put_in_lem a t h w.phase refl)) (λ h. rw h (refuses 17 not_11)))

  begin_in_lem : (t : ℕ) (f : Phase) → w.phase ≡ f → Verdict s room w (begin_list_call t) (begin_in f s room w t)
  unfolding begin_in
  begin_in_lem t Beginning f = fitted (begin_list_call t) (first_list w) (list_first f)
  begin_in_lem t Writing f = fitted (begin_list_call t) (inner s w (40 ∷ []) true t) (list_inside f)
  begin_in_lem t Finished f = refuses 19 not_11
  begin_in_lem t Done f = refuses 19 not_11

  end_in_lem : (f : Phase) → w.phase ≡ f → Verdict s room w end_list_call (end_in f s room w)
  unfolding end_in
  end_in_lem Beginning f = refuses 18 not_11
  end_in_lem Writing f = fitted end_list_call (close s w) (list_closed f)
  end_in_lem Finished f = refuses 19 not_11
  end_in_lem Done f = refuses 19 not_11

  finish_in_lem : (wished : Bool) (f : Phase) → w.phase ≡ f → Verdict s room w (finish_call wished) (finish_in f s room w wished)
  unfolding finish_in
  finish_in_lem wished Beginning f = refuses 20 not_11
  finish_in_lem wished Writing f = refuses 20 not_11
  finish_in_lem wished Finished f = fitted (finish_call wished) (last s w wished) (text_ended f)
  finish_in_lem wished Done f = refuses 19 not_11

  pub verdict : (c : Call) → Verdict s room w c (step s room w c)
  unfolding step begin_list end_list finish_writing
  verdict (put_atom_call a t) = put_atom_lem a t
  verdict (begin_list_call t) = sound (begin_list_call t) _ (begin_in_lem t w.phase refl)
  verdict end_list_call = sound end_list_call _ (end_in_lem w.phase refl)
  verdict (finish_call wished) = sound (finish_call wished) _ (finish_in_lem wished w.phase refl)
