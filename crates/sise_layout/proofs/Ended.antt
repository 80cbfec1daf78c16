-- Once a finish is accepted nothing changes: it makes the record done, and a sound record that is done refuses every call. So text, counts and items of the
-- whole list of calls are those that the accepted finish left.
-- Assumes nothing.
use Prim.Native.Nat.{ℕ}
use mathlib.Core.Path.{◌≡◌, refl, ap, ◌∙◌}
use mathlib.Core.Bool.{Bool, true, cond, false≢true}
use mathlib.Core.List.{List, [], ◌∷◌, ◌++◌, map}
use lib.ListN.{length, take}
use Rattle.sise_util.specs.Atom.{is_atom}
use Rattle.sise_util.proofs.Ranges.{split}
use Rattle.sise_serializer.specs.Bytes.{pasted}
use Rattle.sise_serializer.specs.Serializer.{Style, Written, Answer, accepted, refused, refuse, is_sound, fresh_serializer, put_in, put_atom, begin_in, begin_list, end_in, end_list, finish_in, finish_writing}
use Rattle.sise_serializer.specs.declared.serializer.Phase.{Phase}
use Rattle.sise_serializer.specs.declared.serializer.Phase.TheVariants.{Done}
use Rattle.sise_serializer.specs.declared.serializer.Serializer.{Serializer}
use Rattle.sise_serializer.specs.Calls.{is_accepted, Call, put_atom_call, begin_list_call, end_list_call, finish_call, Placed, item_of, item_at, step, Run, run, writing}
use Rattle.sise_serializer.proofs.Bytes.{pasted_none}
use Rattle.sise_serializer.proofs.Kept.{fresh_sound, sound_kept}
use Rattle.sise_serializer.proofs.Verdicts.{text_ended, Verdict, refuses, puts, verdict}
use Rattle.sise_layout.specs.Texts.{FinishAccepted, here, later, Finishes, text_of, late_number, EndsAt}
use Rattle.sise_layout.proofs.Written.{last_done}

-- an accepted finish
module _ (s : Style) where
  finish_done : (room : ℕ) (w : Serializer) (wished : Bool) (r : Written) → Verdict s room w (finish_call wished) r → is_accepted r.answer ≡ true → r.serializer.phase ≡ Done
  finish_done room w wished r (refuses n u) a = absurd (false≢true a)
  finish_done room w wished r (puts p (text_ended f) q) a = last_done s w wished

  pub finished_done : (room : ℕ) (w : Serializer) (wished : Bool) → is_accepted (step s room w (finish_call wished)).answer ≡ true
      → (step s room w (finish_call wished)).serializer.phase ≡ Done
  finished_done room w wished a = finish_done room w wished _ (verdict s room w (finish_call wished)) a

-- a call after it, with any style and any buffer
module _ (s : Style) (room : ℕ) (w : Serializer) (h : is_sound w ≡ true) (d : w.phase ≡ Done) where
  pub late : (c : Call) → step s room w c ≡ refuse (late_number c) w
  unfolding step late_number put_atom put_in begin_list begin_in end_list end_in finish_writing finish_in
  late (put_atom_call a t) = rw h (ap (λ (p : Phase). cond (is_atom a) (put_in p s room w a t) (refuse 17 w)) d ∙ split (is_atom a) (λ e. rw e) (λ e. rw e))
  late (begin_list_call t) = rw h (ap (λ (p : Phase). begin_in p s room w t) d)
  late end_list_call = rw h (ap (λ (p : Phase). end_in p s room w) d)
  late (finish_call wished) = rw h (ap (λ (p : Phase). finish_in p s room w wished) d)

abbrev tail : List Answer → List Answer
tail [] = []
tail (a ∷ l) = l

-- and a list of calls: record and buffer stay, every call is refused, and there is no item
abbrev pub still : Serializer → List ℕ → List Call → Run
still w buffer cs = record { last = w; buffer = buffer; answers = map (λ (c : Call). refused (late_number c)) cs; items = [] }

module _ (s : Style) where
  -- what the calls cs leave after a call c that came to r
  abbrev next : List ℕ → Serializer → Call → List Call → Written → Run
  next buffer w c cs r =
      let rest = run s (pasted buffer w.position r.bytes) r.serializer cs in
      record { last = rest.last; buffer = rest.buffer; answers = r.answer ∷ rest.answers; items = item_of c r.answer ++ rest.items }

  pub all_late : (w : Serializer) → is_sound w ≡ true → w.phase ≡ Done → (cs : List Call) (buffer : List ℕ) → run s buffer w cs ≡ still w buffer cs
  unfolding run
  all_late w h d [] buffer = refl
  all_late w h d (c ∷ cs) buffer = ap (next buffer w c cs) (late s (length buffer) w h d c) ∙ rw (pasted_none buffer w.position, all_late w h d cs buffer)

  -- a finish is no item
  no_item : (wished : Bool) (a : Answer) → item_of (finish_call wished) a ≡ []
  unfolding item_at
  no_item wished (accepted o) = refl
  no_item wished (refused n) = refl

  at_end_lem : {cs : List Call} {l : List Answer} → FinishAccepted cs l → (buffer : List ℕ) (w : Serializer) → is_sound w ≡ true → l ≡ (run s buffer w cs).answers → EndsAt s buffer w cs
  unfolding run
  at_end_lem (here {wished = wished} {o = o} {cs = cs}) buffer w h e =
      let r = step s (length buffer) w (finish_call wished) in
      let answered : r.answer ≡ accepted o = cc in
      let a = ap is_accepted answered in
      let now = all_late r.serializer (sound_kept s (length buffer) w (finish_call wished) h) (finished_done s (length buffer) w wished a) cs (pasted buffer w.position r.bytes) in
      record {
        before = [];
        wished = wished;
        after = cs;
        calls = refl;
        finish = r;
        is_finish = refl;
        is_accepted_lem = a;
        last = ap (λ (t : Run). t.last) now;
        buffer = ap (λ (t : Run). t.buffer) now;
        items = rw (no_item wished r.answer) (ap (λ (t : Run). t.items) now);
        answers = ap (λ (t : Run). r.answer ∷ t.answers) now;
      }
  at_end_lem (later {c = c} {cs = cs} t) buffer w h e =
      let r = step s (length buffer) w c in
      let i = at_end_lem t (pasted buffer w.position r.bytes) r.serializer (sound_kept s (length buffer) w c h) (ap tail e) in
      record {
        before = c ∷ i.before;
        wished = i.wished;
        after = i.after;
        calls = ap (λ (l : List Call). c ∷ l) i.calls;
        finish = i.finish;
        is_finish = i.is_finish;
        is_accepted_lem = i.is_accepted_lem;
        last = i.last;
        buffer = i.buffer;
        items = ap (λ (l : List Placed). item_of c r.answer ++ l) i.items;
        answers = ap (λ (l : List Answer). r.answer ∷ l) i.answers;
      }

  module _ (buffer : List ℕ) (cs : List Call) (f : Finishes s buffer cs) where
    pub ends_at : EndsAt s buffer fresh_serializer cs
    ends_at = at_end_lem f buffer fresh_serializer fresh_sound refl

    -- the text is the buffer's part up to the position that this finish returned
    pub ends_text : text_of (writing s buffer cs) ≡ take ends_at.finish.serializer.position (writing s buffer cs).buffer
    ends_text = ap (λ (w : Serializer). take w.position (writing s buffer cs).buffer) ends_at.last

    pub ends_done : (writing s buffer cs).last.phase ≡ Done
    ends_done =
        let i = ends_at in
        ap (λ (w : Serializer). w.phase) i.last
        ∙ rw i.is_finish (finished_done s _ _ i.wished (rw i.is_finish at i.is_accepted_lem))
