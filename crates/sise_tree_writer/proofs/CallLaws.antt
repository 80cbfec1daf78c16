-- Calls made one after the other, all accepted: the record after them, the bytes of each, and that what is left of the calls does as the whole does.
-- Assumes nothing.
use Prim.Native.Nat.{ℕ, ◌+◌, ◌-◌, ◌<◌}
use native.Mathlib.Omega.{arith}
use mathlib.Core.Path.{◌≡◌, refl, sym, ap, ◌∙◌}
use mathlib.Core.Bool.{Bool, true, false, cond, false≢true}
use mathlib.Core.List.{List, [], ◌∷◌, ◌++◌}
use lib.Dec.{leb}
use lib.ListN.{length, take, drop, length-append, length-drop}
use borrow.Author.Tests.{leb-true, leb-false, eqb-true}
use Rattle.sise_util.specs.Atom.{is_atom, is_atom_prefix}
use Rattle.sise_util.proofs.Ranges.{split, and_first, and_second}
use Rattle.sise_parser.specs.Reader.{part_of}
use Rattle.sise_serializer.specs.Bytes.{pasted}
use Rattle.sise_serializer.specs.Serializer as writer
use Rattle.sise_serializer.specs.Serializer.{Style, Piece, Written, lists_fit, is_sound, Gap, new_line, nothing, space, gap_at, new_line_of, laid, first_atom, first_list, inner, inner_as, close, close_as, last}
use Rattle.sise_serializer.specs.declared.serializer.Phase.{Phase}
use Rattle.sise_serializer.specs.declared.serializer.Phase.TheVariants.{Beginning}
use Rattle.sise_serializer.specs.declared.serializer.Serializer.{Serializer}
use Rattle.sise_serializer.specs.Calls.{Call, put_atom_call, begin_list_call, end_list_call, finish_call, is_accepted, step, run}
use Rattle.sise_serializer.proofs.Sound.{sound, writing_lists}
use Rattle.sise_serializer.proofs.Kept.{sound_kept}
use Rattle.sise_serializer.proofs.Verdicts.{Puts, atom_alone, atom_inside, list_first, list_inside, list_closed, text_ended, Verdict, refuses, puts, verdict}
use Rattle.sise_serializer.proofs.Bytes.{pasted_length}
use Rattle.sise_tree_writer.specs.SerializeTree.{fits}
use Rattle.sise_tree_writer.specs.Walking.{after}
use Rattle.sise_tree_writer.proofs.Made.{no_offset}

-- an atom that was checked where it lies is one
pub checked_atom : (text : List ℕ) (p m : ℕ) → is_atom_prefix (drop p text) m ≡ true → is_atom (part_of text p m) ≡ true
unfolding is_atom_prefix part_of is_atom
checked_atom text p m h =
    let fit = leb-true m (length (drop p text)) (and_first (leb m (length (drop p text))) _ h) in
    split (leb (p + m) (length text))
    (λ e. rw (e, part_of) (and_second (leb m (length (drop p text))) _ h))
    (λ e.
    let z : m ≡ 0 = omega (arith, leb-false (p + m) (length text) e, length-drop p text) in
    absurd (false≢true (ap (λ (k : ℕ). is_atom (take k (drop p text))) (sym z) ∙ and_second (leb m (length (drop p text))) _ h)))

-- ---- fitting, call by call

module _ (s : Style) (room : ℕ) (w : Serializer) (c : Call) (cs : List Call) where
  pub fits_on : {o : ℕ} → (step s room w c).answer ≡ writer.Answer.accepted o → fits s room w (c ∷ cs) ≡ fits s room (step s room w c).serializer cs
  unfolding fits
  fits_on h = rw h

  pub fits_stop : is_accepted (step s room w c).answer ≡ false → fits s room w (c ∷ cs) ≡ false
  unfolding fits
  fits_stop h = rw h

  pub fits_off : {n : ℕ} → (step s room w c).answer ≡ writer.Answer.refused n → fits s room w (c ∷ cs) ≡ false
  unfolding fits
  fits_off h = rw h

  -- the first of calls that fit is accepted, and the others fit after it
  pub fits_first : fits s room w (c ∷ cs) ≡ true → (o : ℕ) × ((step s room w c).answer ≡ writer.Answer.accepted o) × (fits s room (step s room w c).serializer cs ≡ true)
  fits_first h = of (step s room w c).answer refl
    where
      of : (a : writer.Answer) → (step s room w c).answer ≡ a → (o : ℕ) × ((step s room w c).answer ≡ writer.Answer.accepted o) × (fits s room (step s room w c).serializer cs ≡ true)
      of (writer.Answer.accepted o) e = (o, e, sym (fits_on e) ∙ h)
      of (writer.Answer.refused n) e = absurd (false≢true (sym (fits_off e) ∙ h))

-- what an accepted call writes lies inside the buffer
kept_of : (s : Style) (b : List ℕ) (w : Serializer) (c : Call) (r : Written) {o : ℕ} → Verdict s (length b) w c r → r.answer ≡ writer.Answer.accepted o
    → length (pasted b w.position r.bytes) ≡ length b
kept_of s b w c r (refuses n u) e = no_offset e
kept_of s b w c r (puts p q f) e = pasted_length b w.position (p.layout ++ p.token) (omega (arith, length-append p.layout p.token))

pub accepted_keeps : (s : Style) (b : List ℕ) (w : Serializer) (c : Call) {o : ℕ} → (step s (length b) w c).answer ≡ writer.Answer.accepted o
    → length (pasted b w.position (step s (length b) w c).bytes) ≡ length b
accepted_keeps s b w c e = kept_of s b w c (step s (length b) w c) (verdict s (length b) w c) e

-- the record after calls that fit
pub run_after : (s : Style) (w : Serializer) (cs : List Call) (b : List ℕ) → fits s (length b) w cs ≡ true → (run s b w cs).last ≡ after s (length b) w cs
unfolding run after
run_after s w [] b h = refl
run_after s w (c ∷ cs) b h =
    let (o, e, more) = fits_first s (length b) w c cs h in
    let v = (step s (length b) w c).serializer in
    let long = accepted_keeps s b w c e in
    run_after s v cs (pasted b w.position (step s (length b) w c).bytes) (rw long more) ∙ ap (λ (k : ℕ). after s k v cs) long

-- it is sound
pub after_sound : (s : Style) (room : ℕ) (w : Serializer) (cs : List Call) → is_sound w ≡ true → is_sound (after s room w cs) ≡ true
unfolding after
after_sound s room w [] h = h
after_sound s room w (c ∷ cs) h = after_sound s room (step s room w c).serializer cs (sound_kept s room w c h)

-- ---- the number of open lists

-- an accepted call's lists
abbrev pub lists_after : Call → ℕ → ℕ
lists_after (put_atom_call a t) n = n
lists_after (begin_list_call t) n = n + 1
lists_after end_list_call n = n - 1
lists_after (finish_call wished) n = n

module _ (s : Style) (room : ℕ) (w : Serializer) (h : is_sound w ≡ true) where
  begun_none : w.phase ≡ Beginning → w.lists ≡ 0
  begun_none e = eqb-true w.lists 0 (ap (λ (p : Phase). lists_fit p w.lists) (sym e) ∙ (sound w h).checked.opens)

  piece_lists : (c : Call) (p : Piece) → Puts s w c p → p.after.lists ≡ lists_after c w.lists
  unfolding first_atom first_list inner inner_as close close_as last
  piece_lists c p (atom_alone e f) = sym (begun_none e)
  piece_lists c p (atom_inside e f) = refl
  piece_lists c p (list_first e) = omega (arith, begun_none e)
  piece_lists c p (list_inside e) = refl
  piece_lists c p (list_closed e) = refl
  piece_lists c p (text_ended e) = refl

  lists_of : (c : Call) (r : Written) {o : ℕ} → Verdict s room w c r → r.answer ≡ writer.Answer.accepted o → r.serializer.lists ≡ lists_after c w.lists
  lists_of c r (refuses n u) e = no_offset e
  lists_of c r (puts p q f) e = piece_lists c p q

  pub accepted_lists : (c : Call) {o : ℕ} → (step s room w c).answer ≡ writer.Answer.accepted o → (step s room w c).serializer.lists ≡ lists_after c w.lists
  accepted_lists c e = lists_of c (step s room w c) (verdict s room w c) e

  closed_some : (r : Written) {o : ℕ} → Verdict s room w end_list_call r → r.answer ≡ writer.Answer.accepted o → 0 < w.lists
  closed_some r (refuses n u) e = no_offset e
  closed_some r (puts p (list_closed q) f) e = writing_lists w h q

  -- only an open list is closed
  pub closed_list : {o : ℕ} → (step s room w end_list_call).answer ≡ writer.Answer.accepted o → 0 < w.lists
  closed_list e = closed_some (step s room w end_list_call) (verdict s room w end_list_call) e

-- ---- what is left of the calls

-- bytes written, or not
abbrev pub written_if : Bool → List ℕ → ℕ → List ℕ → List ℕ
written_if writes before at bytes = cond writes (pasted before at bytes) before

-- the calls cs, from the record w and the buffer b, do as the whole, cs₀ from w₀ and b₀, does
pub record Same (s : Style) (writes : Bool) (room : ℕ) (b₀ : List ℕ) (w₀ : Serializer) (cs₀ : List Call) (b : List ℕ) (w : Serializer) (cs : List Call) : Type 0 where
  pub fit : fits s room w cs ≡ fits s room w₀ cs₀
  pub last : after s room w cs ≡ after s room w₀ cs₀
  pub lent : writes ≡ true → room ≡ length b
  pub buffer : writes ≡ true → (run s b w cs).buffer ≡ (run s b₀ w₀ cs₀).buffer
  pub kept : writes ≡ false → b ≡ b₀

pub same_start : (s : Style) (writes : Bool) (room : ℕ) (b : List ℕ) (w : Serializer) (cs : List Call) → (writes ≡ true → room ≡ length b) → Same s writes room b w cs b w cs
same_start s writes room b w cs lent = record { fit = refl; last = refl; lent = lent; buffer = λ e. refl; kept = λ e. refl }

module _ {s : Style} {writes : Bool} {room : ℕ} {b₀ : List ℕ} {w₀ : Serializer} {cs₀ : List Call} {b : List ℕ} {w : Serializer} {c : Call} {cs : List Call}
    (h : Same s writes room b₀ w₀ cs₀ b w (c ∷ cs)) {v : Serializer} {now : List ℕ} {o : ℕ}
    (does : v ≡ (step s room w c).serializer) (wrote : now ≡ written_if writes b w.position (step s room w c).bytes) (e : (step s room w c).answer ≡ writer.Answer.accepted o) where
  -- one call more
  pub same_on : Same s writes room b₀ w₀ cs₀ now v cs
  unfolding run after
  same_on = record {
    fit = ap (λ (x : Serializer). fits s room x cs) does ∙ sym (fits_on s room w c cs e) ∙ h.fit;
    last = ap (λ (x : Serializer). after s room x cs) does ∙ h.last;
    lent = λ t. h.lent t ∙ sym (rw (wrote, t, h.lent t) (accepted_keeps s b w c (rw (h.lent t) at e)));
    buffer = λ t. rw (does, wrote, t, h.lent t) (h.buffer t);
    kept = λ t. (rw t at wrote) ∙ h.kept t;
  }
