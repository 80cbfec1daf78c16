-- From what the code knows at a return to the promise of its contract: for refusals, for items by their gap, and for each call.
-- Assumes nothing.
use Prim.Native.Nat.{ℕ, ◌≤◌, ◌<◌}
use native.Mathlib.Nat.{add-zero}
use Rattle.std.specs.Prelude.{Err}
use mathlib.Core.Path.{◌≡◌, refl, sym, ap, ◌∙◌}
use mathlib.Core.Bool.{Bool, true, false}
use mathlib.Core.Logic.{◌⊎◌, ⊎_elim}
use mathlib.Core.List.{List, [], ◌∷◌}
use borrow.Author.Tests.{lt-ltb, le-ltb, eq-eqb, ne_eqb}
use Rattle.sise_util.specs.Atom.{is_atom}
use Rattle.sise_util.proofs.Ranges.{split}
use Rattle.sise_serializer.specs.Serializer.{refused, error_number, DoesAs, is_sound, Style, refuse, place, first_atom, first_list, Gap, new_line, nothing, space, gap_at, laid, inner, inner_as, close, close_as, put_in, put_atom, begin_in, begin_list, end_in, end_list, finish_in, finish_writing}
use Rattle.sise_serializer.specs.Calls.{Call, put_atom_call, begin_list_call, end_list_call, finish_call, step}
use Rattle.sise_serializer.specs.Parts.{wrote_of, first_item, item_in, in_line}
use Rattle.sise_serializer.specs.declared.serializer.Phase.{Phase}
use Rattle.sise_serializer.specs.declared.serializer.Phase.TheVariants.{Beginning, Writing, Finished, Done}
use Rattle.sise_serializer.specs.declared.serializer.Serializer.{Serializer}
use Rattle.sise_serializer.specs.declared.serializer.WriteError.{WriteError}
use Rattle.sise_serializer.proofs.Bytes.{pasted_none}

-- ---- refusals

module _ (w : Serializer) (before : List ℕ) where
  -- a refusal changes nothing
  pub refused_does : (n : ℕ) {e : WriteError} → error_number e ≡ n → DoesAs (refuse n w) w before (wrote_of w (Err e)) before
  refused_does n e = record { serializer = refl; answer = ap refused e; buffer = sym (pasted_none before w.position) }

-- ---- an item in a list

-- the gap, from the two tests of the code
module _ (w : Serializer) (t : ℕ) where
  pub gap_new_line : t ≤ w.line_len → gap_at w t ≡ new_line
  gap_new_line h = simp (le-ltb _ _ h)

  pub gap_nothing : w.line_len < t → w.list_beginning ≡ true → gap_at w t ≡ nothing
  gap_nothing h b = simp (lt-ltb _ _ h, b)

  pub gap_space : w.line_len < t → w.list_beginning ≡ false → gap_at w t ≡ space
  gap_space h b = simp (lt-ltb _ _ h, b)

-- an item behind that gap: on a new line, or in the same one behind a space unless a list begins
module _ (s : Style) (w : Serializer) (token : List ℕ) (isList : Bool) (t : ℕ) where
  pub inner_is : {g : Gap} → gap_at w t ≡ g → inner s w token isList t ≡ inner_as s w token isList g
  unfolding inner
  inner_is gap = ap (inner_as s w token isList) gap

  pub new_line_is : t ≤ w.line_len → inner s w token isList t ≡ inner_as s w token isList new_line
  new_line_is h = inner_is (gap_new_line w t h)

  pub in_line_is : w.line_len < t → inner s w token isList t ≡ in_line w token isList
  unfolding inner_as laid in_line
  in_line_is h =
      split w.list_beginning
      (λ b. inner_is (gap_nothing w t h b) ∙ rw (b, add-zero w.line_len, add-zero w.spaces) refl)
      (λ b. inner_is (gap_space w t h b) ∙ rw b refl)

-- ---- the close of a list, by the test of the code

module _ (s : Style) (w : Serializer) where
  pub close_broken : w.broken ≡ w.lists → close s w ≡ close_as s w true
  unfolding close
  close_broken e = ap (close_as s w) (eq-eqb _ _ e)

  pub close_unbroken : (w.broken ≡ w.lists → ⊥) → close s w ≡ close_as s w false
  unfolding close
  close_unbroken f = ap (close_as s w) (ne_eqb _ _ f)

-- ---- the calls, by their tests and the phase

module _ (s : Style) (room : ℕ) (w : Serializer) where
  -- "11 comes first"
  pub unsound_call : (c : Call) → is_sound w ≡ false → step s room w c ≡ refuse 11 w
  unfolding step put_atom begin_list end_list finish_writing
  unsound_call (put_atom_call a t) e = rw e
  unsound_call (begin_list_call t) e = rw e
  unsound_call end_list_call e = rw e
  unsound_call (finish_call wished) e = rw e

  module _ (e : is_sound w ≡ true) where
    pub end_in_lem : {p : Phase} → w.phase ≡ p → step s room w end_list_call ≡ end_in p s room w
    unfolding step end_list
    end_in_lem h = rw e (ap (λ (q : Phase). end_in q s room w) h)

    pub finish_in_lem : (wished : Bool) {p : Phase} → w.phase ≡ p → step s room w (finish_call wished) ≡ finish_in p s room w wished
    unfolding step finish_writing
    finish_in_lem wished h = rw e (ap (λ (q : Phase). finish_in q s room w wished) h)

    pub end_refused : (w.phase ≡ Finished) ⊎ (w.phase ≡ Done) → step s room w end_list_call ≡ refuse 19 w
    unfolding end_in
    end_refused = ⊎_elim end_in_lem end_in_lem

    pub finish_early : (wished : Bool) → (w.phase ≡ Beginning) ⊎ (w.phase ≡ Writing) → step s room w (finish_call wished) ≡ refuse 20 w
    unfolding finish_in
    finish_early wished = ⊎_elim (finish_in_lem wished) (finish_in_lem wished)

    pub begin_in_lem : (t : ℕ) {p : Phase} → w.phase ≡ p → step s room w (begin_list_call t) ≡ begin_in p s room w t
    unfolding step begin_list
    begin_in_lem t h = rw e (ap (λ (q : Phase). begin_in q s room w t) h)

    pub put_no_atom : (a : List ℕ) (t : ℕ) → is_atom a ≡ false → step s room w (put_atom_call a t) ≡ refuse 17 w
    unfolding step put_atom
    put_no_atom a t f = rw (e, f)

    pub put_in_lem : (a : List ℕ) (t : ℕ) {p : Phase} → is_atom a ≡ true → w.phase ≡ p → step s room w (put_atom_call a t) ≡ put_in p s room w a t
    unfolding step put_atom
    put_in_lem a t f h = rw (e, f) (ap (λ (q : Phase). put_in q s room w a t) h)

    -- an item is what both calls put, an atom or the start of a list
    pub put_item : (a : List ℕ) (t : ℕ) → is_atom a ≡ true → step s room w (put_atom_call a t) ≡ item_in w.phase s room w a false t
    unfolding item_in put_in first_item first_atom
    put_item a t f = put_in_lem a t f refl ∙ same w.phase
      where
        same : (p : Phase) → put_in p s room w a t ≡ item_in p s room w a false t
        same Beginning = refl
        same Writing = refl
        same Finished = refl
        same Done = refl

    pub begin_item : (t : ℕ) → step s room w (begin_list_call t) ≡ item_in w.phase s room w (40 ∷ []) true t
    unfolding item_in begin_in first_item first_list
    begin_item t = begin_in_lem t refl ∙ same w.phase
      where
        same : (p : Phase) → begin_in p s room w t ≡ item_in p s room w (40 ∷ []) true t
        same Beginning = refl
        same Writing = refl
        same Finished = refl
        same Done = refl

-- ---- what an item puts, by the phase and the threshold

module _ (s : Style) (room : ℕ) (w : Serializer) (token : List ℕ) (isList : Bool) (t : ℕ) where
  item_at : {p : Phase} → w.phase ≡ p → item_in w.phase s room w token isList t ≡ item_in p s room w token isList t
  item_at h = ap (λ (p : Phase). item_in p s room w token isList t) h

  pub item_first : w.phase ≡ Beginning → item_in w.phase s room w token isList t ≡ place room w (first_item w token isList)
  unfolding item_in
  item_first h = item_at h

  pub item_on_new_line : w.phase ≡ Writing → t ≤ w.line_len → item_in w.phase s room w token isList t ≡ place room w (inner_as s w token isList new_line)
  unfolding item_in
  item_on_new_line h e = item_at h ∙ ap (place room w) (new_line_is s w token isList t e)

  pub item_in_line : w.phase ≡ Writing → w.line_len < t → item_in w.phase s room w token isList t ≡ place room w (in_line w token isList)
  unfolding item_in
  item_in_line h e = item_at h ∙ ap (place room w) (in_line_is s w token isList t e)

  pub item_refused : (w.phase ≡ Finished) ⊎ (w.phase ≡ Done) → item_in w.phase s room w token isList t ≡ refuse 19 w
  unfolding item_in
  item_refused = ⊎_elim item_at item_at
