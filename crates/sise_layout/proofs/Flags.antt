-- The rule with a flag for each open list and the rule with one number give the same answers, bytes, offsets and counts, for every list of calls that
-- does not meet 21: the number counts the lists from the outermost to the innermost one whose flag is set. The statement is `flags_same`.
-- Assumes nothing.
use Prim.Native.Nat.{ℕ, suc, ◌+◌, ◌-◌, ◌*◌, ◌≤◌, ◌<◌, min}
use native.Mathlib.Omega.{arith}
use mathlib.Core.Path.{◌≡◌, refl, sym, ap, ap₂, ◌∙◌}
use mathlib.Core.Bool.{Bool, true, false, cond, false≢true}
use mathlib.Core.List.{List, [], ◌∷◌, ◌++◌}
use lib.Dec.{leb, ltb, eqb}
use lib.ListN.{length}
use borrow.Author.Tests.{le-leb, ltb-true, eq-eqb, ne_eqb, eqb-true}
use Rattle.sise_util.specs.Atom.{is_atom}
use Rattle.sise_util.proofs.Ranges.{split}
use Rattle.sise_serializer.specs.Serializer.{Style, accepted, Written, limit, is_sound, fresh_serializer, refuse, Piece, place, first_atom, first_list, Gap, new_line, nothing, space, gap_at, new_line_of, laid, inner_as, inner, close_as, close, last, put_in, put_atom, begin_in, begin_list, end_in, end_list, finish_in, finish_writing}
use Rattle.sise_serializer.specs.declared.serializer.Phase.{Phase}
use Rattle.sise_serializer.specs.declared.serializer.Phase.TheVariants.{Beginning, Writing, Finished, Done}
use Rattle.sise_serializer.specs.declared.serializer.Serializer.{Serializer}
use Rattle.sise_serializer.specs.Calls.{Call, put_atom_call, begin_list_call, end_list_call, finish_call, is_accepted, step}
use Rattle.sise_serializer.proofs.Sound.{sound, writing_lists}
use Rattle.sise_serializer.proofs.Kept.{atom_bytes_lem, fresh_sound, sound_kept}
use Rattle.sise_serializer.proofs.Verdicts.{Puts, atom_alone, atom_inside, list_first, list_inside, list_closed, text_ended, Verdict, refuses, puts, verdict}
use Rattle.sise_layout.specs.Texts.{Styled}
use Rattle.sise_layout.specs.Reading.{All, more}
use Rattle.sise_layout.specs.Flags.{unnumbered, seen, is_sound_to200, is_broken, marked_by, closed, flags_after, begin_to200, end_by_flag, call_by_flags, step_by_flags, by_flags, by_number, is_not21}

-- ---- the number that flags come to

abbrev number_of : List Bool → ℕ
number_of [] = 0
number_of (true ∷ flags) = suc (length flags)
number_of (false ∷ flags) = number_of flags

at_most : (flags : List Bool) → number_of flags ≤ length flags
at_most [] = omega arith
at_most (true ∷ flags) = omega arith
at_most (false ∷ flags) = omega (arith, at_most flags)

-- the innermost list is broken exactly if all are counted
innermost : (flags : List Bool) → 0 < length flags → eqb (number_of flags) (length flags) ≡ is_broken flags
innermost [] h = absurd (omega arith)
innermost (true ∷ flags) h = eq-eqb (suc (length flags)) (suc (length flags)) refl
innermost (false ∷ flags) h = ne_eqb (number_of flags) (suc (length flags)) (λ (e : number_of flags ≡ suc (length flags)). omega (arith, at_most flags))

-- a broken child makes its parent broken
closes : (flags : List Bool) → number_of (closed flags) ≡ min (number_of flags) (length flags - 1)
closes [] = omega arith
closes (true ∷ []) = omega arith
closes (false ∷ []) = omega arith
closes (true ∷ c ∷ flags) = omega arith
closes (false ∷ true ∷ flags) = omega arith
closes (false ∷ false ∷ flags) = omega (arith, at_most flags)

closes_one : (flags : List Bool) → length (closed flags) ≡ length flags - 1
closes_one [] = refl
closes_one (b ∷ []) = refl
closes_one (b ∷ c ∷ flags) = omega arith

-- a break in the innermost list
marks : (flags : List Bool) → number_of (marked_by new_line flags) ≡ length flags
marks [] = refl
marks (b ∷ flags) = refl

same_many : (g : Gap) (flags : List Bool) → length (marked_by g flags) ≡ length flags
same_many new_line [] = refl
same_many new_line (b ∷ flags) = refl
same_many nothing flags = refl
same_many space flags = refl

marked_none : (g : Gap) → marked_by g [] ≡ []
marked_none new_line = refl
marked_none nothing = refl
marked_none space = refl

-- a close adds fewer indents than 200, and a byte
closing_steps : (p : ℕ) (b : Bool) (n : ℕ) {i d : ℕ} → i ≤ 200 * (p + 1) → d ≤ 200 → cond b (i + (d - 1)) i ≤ 200 * (p + n + 1 + 1)
closing_steps p true n h k = omega arith
closing_steps p false n h k = omega arith

none_in : (flags : List Bool) → length flags ≡ 0 → flags ≡ []
none_in [] e = refl
none_in (b ∷ flags) e = absurd (omega arith)

-- ---- a piece comes to the same with and without the number

module _ (room : ℕ) (w : Serializer) where
  seen_refused : (n : ℕ) → seen (refuse n w) ≡ seen (refuse n (unnumbered w))
  unfolding seen unnumbered
  seen_refused n = refl

  seen_put : (p q : Piece) → q.layout ≡ p.layout → q.token ≡ p.token → unnumbered q.after ≡ unnumbered p.after
      → seen (place room w p) ≡ seen (place room (unnumbered w) q)
  unfolding seen place unnumbered
  seen_put p q e f g =
      rw (e, f)
      (split (leb (w.position + length p.layout + length p.token) (min room limit))
      (λ t. rw t (ap (λ (v : Serializer). record { serializer = v; answer = accepted (w.position + length p.layout); bytes = p.layout ++ p.token }) (sym g)))
      (λ t. rw t))

module _ (s : Style) (w : Serializer) where
  inner_seen : (room : ℕ) (a : List ℕ) (isList : Bool) (g : Gap) → seen (place room w (inner_as s w a isList g)) ≡ seen (place room (unnumbered w) (inner_as s (unnumbered w) a isList g))
  unfolding inner_as laid unnumbered
  inner_seen room a isList new_line = seen_put room w (inner_as s w a isList new_line) (inner_as s (unnumbered w) a isList new_line) refl refl refl
  inner_seen room a isList nothing = seen_put room w (inner_as s w a isList nothing) (inner_as s (unnumbered w) a isList nothing) refl refl refl
  inner_seen room a isList space = seen_put room w (inner_as s w a isList space) (inner_as s (unnumbered w) a isList space) refl refl refl

  close_seen : (room : ℕ) (b : Bool) → seen (place room w (close_as s w b)) ≡ seen (place room (unnumbered w) (close_as s (unnumbered w) b))
  unfolding close_as unnumbered
  close_seen room b = seen_put room w (close_as s w b) (close_as s (unnumbered w) b) refl refl refl

  put_seen : (room : ℕ) (a : List ℕ) (t : ℕ) (f : Phase) → seen (put_in f s room w a t) ≡ seen (put_in f s room (unnumbered w) a t)
  unfolding put_in inner unnumbered first_atom
  put_seen room a t Beginning = seen_put room w (first_atom w a) (first_atom (unnumbered w) a) refl refl refl
  put_seen room a t Writing = inner_seen room a false (gap_at w t)
  put_seen room a t Finished = seen_refused room w 19
  put_seen room a t Done = seen_refused room w 19

  begin_seen : (room : ℕ) (t : ℕ) (f : Phase) → seen (begin_in f s room w t) ≡ seen (begin_in f s room (unnumbered w) t)
  unfolding begin_in inner unnumbered first_list
  begin_seen room t Beginning = seen_put room w (first_list w) (first_list (unnumbered w)) refl refl refl
  begin_seen room t Writing = inner_seen room (40 ∷ []) true (gap_at w t)
  begin_seen room t Finished = seen_refused room w 19
  begin_seen room t Done = seen_refused room w 19

  finish_seen : (room : ℕ) (wished : Bool) (f : Phase) → seen (finish_in f s room w wished) ≡ seen (finish_in f s room (unnumbered w) wished)
  unfolding finish_in last unnumbered
  finish_seen room wished Beginning = seen_refused room w 20
  finish_seen room wished Writing = seen_refused room w 20
  finish_seen room wished Finished = seen_put room w (last s w wished) (last s (unnumbered w) wished) refl refl refl
  finish_seen room wished Done = seen_refused room w 19

-- ---- one call

-- a record with the number and flags that say the same, within 200 lists
record Alike (w : Serializer) (flags : List Bool) : Type 0 where
  sound : is_sound w ≡ true
  many : w.lists ≡ length flags
  number : w.broken ≡ number_of flags
  few : w.lists ≤ 200
  steps : w.indents ≤ 200 * (w.position + 1)

module _ (w : Serializer) (flags : List Bool) (h : Alike w flags) where
  sound_to_200 : is_sound_to200 (unnumbered w) ≡ true
  unfolding is_sound_to200 unnumbered
  sound_to_200 =
      let k = (sound w h.sound).checked in
      simp (le-leb _ _ k.place, le-leb _ _ k.line, le-leb _ _ h.few, k.opens, le-leb _ _ k.gaps, le-leb _ _ k.lines, le-leb _ _ h.steps)

  -- past 21 a list begins as it does without the limit
  begins : (s : Style) (room t : ℕ) (f : Phase) → is_not21 (seen (begin_to200 f s room (unnumbered w) t)) ≡ true
      → seen (begin_in f s room w t) ≡ seen (begin_to200 f s room (unnumbered w) t)
  unfolding begin_to200 is_not21 seen
  begins s room t Beginning n = begin_seen s w room t Beginning
  begins s room t Writing n =
      split (ltb (unnumbered w).lists 200)
      (λ e. rw e (begin_seen s w room t Writing))
      (λ e. absurd (false≢true (rw e at n)))
  begins s room t Finished n = begin_seen s w room t Finished
  begins s room t Done n = begin_seen s w room t Done

  -- the flag of the innermost list is what the number says
  ends : (s : Style) (room : ℕ) (f : Phase) → w.phase ≡ f → seen (end_in f s room w) ≡ seen (end_by_flag f s room (unnumbered w) flags)
  unfolding end_in end_by_flag close
  ends s room Beginning f = seen_refused room w 18
  ends s room Writing f =
      let some = writing_lists w h.sound f in
      let many = h.many in
      ap (λ (b : Bool). seen (place room w (close_as s w b))) (ap₂ eqb h.number h.many ∙ innermost flags (omega arith)) ∙ close_seen s w room (is_broken flags)
  ends s room Finished f = seen_refused room w 19
  ends s room Done f = seen_refused room w 19

  same_call : (s : Style) (room : ℕ) (c : Call) → is_not21 (step_by_flags s room (unnumbered w) flags c) ≡ true → seen (step s room w c) ≡ step_by_flags s room (unnumbered w) flags c
  unfolding step step_by_flags call_by_flags put_atom begin_list end_list finish_writing unnumbered
  same_call s room (put_atom_call a t) n =
      rw (h.sound, sound_to_200)
      (split (is_atom a) (λ e. rw e (put_seen s w room a t w.phase)) (λ e. rw e (seen_refused room w 17)))
  same_call s room (begin_list_call t) n = rw (h.sound, sound_to_200) (begins s room t w.phase (rw sound_to_200 at n))
  same_call s room end_list_call n = rw (h.sound, sound_to_200) (ends s room w.phase refl)
  same_call s room (finish_call wished) n = rw (h.sound, sound_to_200) (finish_seen s w room wished w.phase)

  -- ---- and leaves flags and number alike

  none_open : w.phase ≡ Beginning → flags ≡ []
  none_open f = none_in flags (omega (arith, h.many, eqb-true w.lists 0 (rw f at (sound w h.sound).checked.opens)))

  -- 21 comes first where 200 lists are open
  below : (s : Style) (room t : ℕ) → w.phase ≡ Writing → is_not21 (step_by_flags s room (unnumbered w) flags (begin_list_call t)) ≡ true → w.lists < 200
  unfolding step_by_flags call_by_flags begin_to200 unnumbered is_not21 seen
  below s room t f n =
      split (ltb w.lists 200)
      (λ e. ltb-true w.lists 200 e)
      (λ e. absurd (false≢true (rw (sound_to_200, f, e) at n)))

  laid_number : (s : Style) (g : Gap) → (laid g s w).broken ≡ number_of (marked_by g flags)
  unfolding laid
  laid_number s new_line = h.many ∙ sym (marks flags)
  laid_number s nothing = h.number
  laid_number s space = h.number

  laid_steps : (s : Style) (g : Gap) (a : List ℕ) → 1 ≤ length a → (laid g s w).indents ≤ 200 * (w.position + length (laid g s w).bytes + length a + 1)
  unfolding laid
  laid_steps s new_line a one = omega (arith, h.steps, h.few)
  laid_steps s nothing a one = omega (arith, h.steps)
  laid_steps s space a one = omega (arith, h.steps)

  inner_alike : (s : Style) (a : List ℕ) (g : Gap) → 1 ≤ length a → is_sound (inner_as s w a false g).after ≡ true → Alike (inner_as s w a false g).after (marked_by g flags)
  unfolding inner_as
  inner_alike s a g one k = record { sound = k; many = h.many ∙ sym (same_many g flags); number = laid_number s g; few = h.few; steps = laid_steps s g a one }

  begin_alike : (s : Style) (g : Gap) → w.lists < 200 → is_sound (inner_as s w (40 ∷ []) true g).after ≡ true → Alike (inner_as s w (40 ∷ []) true g).after (false ∷ marked_by g flags)
  unfolding inner_as
  begin_alike s g few k = record { sound = k; many = omega (arith, h.many, same_many g flags); number = laid_number s g; few = omega arith; steps = laid_steps s g (40 ∷ []) (omega arith) }

  close_alike : (s : Style) (b : Bool) → is_sound (close_as s w b).after ≡ true → Alike (close_as s w b).after (closed flags)
  unfolding close_as
  close_alike s b k = record {
    sound = k;
    many = ap (λ (n : ℕ). n - 1) h.many ∙ sym (closes_one flags);
    number = ap₂ (λ (m n : ℕ). min m (n - 1)) h.number h.many ∙ sym (closes flags);
    few = omega (arith, h.few);
    steps = closing_steps w.position b (length (cond b (new_line_of s (w.lists - 1)) [])) h.steps h.few;
  }

  put_alike : (s : Style) (room : ℕ) (c : Call) (p : Piece) → Puts s w c p → is_not21 (step_by_flags s room (unnumbered w) flags c) ≡ true → is_sound p.after ≡ true
      → Alike p.after (flags_after (unnumbered w) c flags)
  unfolding first_atom first_list inner close last unnumbered
  put_alike s room c p (atom_alone {a = a} {t = t} f e) n k = rw (none_open f, marked_none (gap_at w t)) (record { sound = k; many = refl; number = refl; few = omega arith; steps = omega (arith, h.steps) })
  put_alike s room c p (atom_inside {a = a} {t = t} f e) n k = inner_alike s a (gap_at w t) (atom_bytes_lem a e) k
  put_alike s room c p (list_first {t = t} f) n k = rw (none_open f, marked_none (gap_at w t)) (record { sound = k; many = refl; number = refl; few = omega arith; steps = omega (arith, h.steps) })
  put_alike s room c p (list_inside {t = t} f) n k = begin_alike s (gap_at w t) (below s room t f n) k
  put_alike s room c p (list_closed f) n k = close_alike s (eqb w.broken w.lists) k
  put_alike s room c p (text_ended f) n k = record { sound = k; many = h.many; number = h.number; few = h.few; steps = omega (arith, h.steps) }

  kept_alike : (s : Style) (room : ℕ) (c : Call) (r : Written) → Verdict s room w c r → is_not21 (step_by_flags s room (unnumbered w) flags c) ≡ true → is_sound r.serializer ≡ true
      → Alike r.serializer (cond (is_accepted r.answer) (flags_after (unnumbered w) c flags) flags)
  kept_alike s room c r (refuses m u) n k = h
  kept_alike s room c r (puts p o q) n k = put_alike s room c p o n k

-- ---- lists of calls

run_same : (cs : List Styled) (w : Serializer) (flags : List Bool) → Alike w flags → All (λ r. is_not21 r ≡ true) (by_flags (unnumbered w) flags cs)
    → by_number w cs ≡ by_flags (unnumbered w) flags cs
unfolding by_number by_flags seen
run_same [] w flags h n = refl
run_same (c ∷ cs) w flags h (more m n) =
    let r = step c.style c.room w c.call in
    let e = same_call w flags h c.style c.room c.call m in
    let k = kept_alike w flags h c.style c.room c.call r (verdict c.style c.room w c.call) m (sound_kept c.style c.room w c.call h.sound) in
    rw (← e) (ap (λ (l : List Written). seen r ∷ l) (run_same cs r.serializer _ k (rw (← e) at n)))

fresh_alike : Alike fresh_serializer []
unfolding fresh_serializer
fresh_alike = record { sound = fresh_sound; many = refl; number = refl; few = omega arith; steps = omega arith }

fresh_unnumbered : unnumbered fresh_serializer ≡ fresh_serializer
unfolding unnumbered fresh_serializer
fresh_unnumbered = refl

-- every list of calls from a fresh record, each with a style and a buffer of its own, that meets no 21: the same records but for the number, answers, offsets
-- and bytes, call by call
pub flags_same : (cs : List Styled) → All (λ r. is_not21 r ≡ true) (by_flags fresh_serializer [] cs) → by_number fresh_serializer cs ≡ by_flags fresh_serializer [] cs
flags_same cs n = rw fresh_unnumbered at (run_same cs fresh_serializer [] fresh_alike (rw fresh_unnumbered n))
