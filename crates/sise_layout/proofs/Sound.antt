-- Every call keeps a sound record sound, so every reachable record is sound, and a writer that begins fresh is never refused with 11, whatever calls,
-- styles and buffers it gets.
-- Assumes nothing.
use Prim.Native.Nat.{ℕ}
use mathlib.Core.Path.{◌≡◌, refl, sym, ◌∙◌}
use mathlib.Core.Bool.{true, false≢true}
use mathlib.Core.List.{List, [], ◌∷◌}
use lib.Dec.{eqb}
use Rattle.sise_util.proofs.Ranges.{split}
use Rattle.sise_serializer.specs.Serializer.{Style, Written, is_sound, fresh_serializer}
use Rattle.sise_serializer.specs.Calls.{Call, step}
use Rattle.sise_layout.specs.Texts.{Reachable, fresh, after, Styled, answers_of, is_not11}
use Rattle.sise_serializer.specs.declared.serializer.Serializer.{Serializer}
use Rattle.sise_serializer.proofs.Verdicts.{Verdict, refuses, puts, verdict}
use Rattle.sise_serializer.proofs.Kept.{fresh_sound, sound_kept}
use Rattle.sise_layout.specs.Reading.{All, none, more}

-- only an unsound record is refused with 11
no_11 : (s : Style) (room : ℕ) (w : Serializer) → is_sound w ≡ true → (c : Call) (r : Written) → Verdict s room w c r → is_not11 r.answer ≡ true
unfolding is_not11
no_11 s room w h c r (refuses n u) = split (eqb n 11) (λ e. absurd (false≢true (sym (u e) ∙ h))) (λ e. rw e)
no_11 s room w h c r (puts p o q) = refl

pub reachable_sound : (w : Serializer) → Reachable w → is_sound w ≡ true
reachable_sound w fresh = fresh_sound
reachable_sound w (after {w = v} r s room c) = sound_kept s room v c (reachable_sound v r)

all_reachable : (cs : List Styled) (w : Serializer) → Reachable w → All (λ a. is_not11 a ≡ true) (answers_of w cs)
unfolding answers_of
all_reachable [] w r = none
all_reachable (c ∷ cs) w r =
    more (no_11 c.style c.room w (reachable_sound w r) c.call _ (verdict c.style c.room w c.call))
    (all_reachable cs (step c.style c.room w c.call).serializer (after r c.style c.room c.call))

-- no list of calls from a fresh record, each with a style and a buffer of its own, meets 11
pub never_11 : (cs : List Styled) → All (λ a. is_not11 a ≡ true) (answers_of fresh_serializer cs)
never_11 cs = all_reachable cs fresh_serializer fresh
