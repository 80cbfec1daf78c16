-- Each call leaves a sound record sound: an accepted item writes its token's byte at least, so D, at most the position, is at most what the bound of
-- the indents rises by; a refused call changes nothing.
-- Assumes nothing.
use Prim.Native.Nat.{ℕ, ◌+◌, ◌-◌, ◌*◌, ◌≤◌}
use native.Mathlib.Nat.{mul-le-mul}
use native.Mathlib.Omega.{arith}
use mathlib.Core.Path.{◌≡◌, refl, sym, ◌∙◌}
use mathlib.Core.Bool.{Bool, true, false, cond, false≢true}
use mathlib.Core.List.{List, [], ◌∷◌}
use lib.Dec.{leb, eqb}
use lib.ListN.{length}
use borrow.Author.Tests.{le-leb, eqb-false, leb-true}
use Rattle.sise_util.specs.Atom.{is_atom}
use Rattle.sise_util.proofs.Ranges.{split}
use Rattle.sise_serializer.specs.Serializer.{Style, Piece, Written, limit, is_sound, lists_fit, last_break, fresh_serializer, first_atom, first_list, Gap, new_line, nothing, space, gap_at, laid, inner_as, inner, phase_after, close_as, close, last}
use Rattle.sise_serializer.specs.Calls.{Call, step}
use Rattle.sise_serializer.specs.declared.serializer.Phase.TheVariants.{Beginning, Writing, Finished}
use Rattle.sise_serializer.specs.declared.serializer.Serializer.{Serializer}
use Rattle.sise_serializer.proofs.Bytes.{layout_length}
use Rattle.sise_serializer.proofs.Sound.{Sound, sound, checked_sound}
use Rattle.sise_serializer.proofs.Verdicts.{end_of, Puts, atom_alone, atom_inside, list_first, list_inside, list_closed, text_ended, Verdict, refuses, puts, verdict}

-- an atom has a byte
pub atom_bytes_lem : (a : List ℕ) → is_atom a ≡ true → 1 ≤ length a
unfolding is_atom
atom_bytes_lem [] h = absurd (false≢true h)
atom_bytes_lem (b ∷ a) h = omega arith

-- a list more takes a byte more
opened : (isList : Bool) {n p q : ℕ} → n ≤ p → p + 1 ≤ q → cond isList (n + 1) n ≤ q
opened true h more = omega arith
opened false h more = omega arith

-- so does the list of the new line that adds its indentations
rise : (p : ℕ) {i n q : ℕ} → i ≤ p * (p + 1) → n ≤ p → p + 1 ≤ q → i + n ≤ q * (q + 1)
rise p {q = q} h d more = let e : p + 1 + 1 ≤ q + 1 = omega arith in omega (arith, mul-le-mul more e)

-- a record further on
stay : (p : ℕ) {i q : ℕ} → i ≤ p * (p + 1) → p ≤ q → i ≤ q * (q + 1)
stay p {q = q} h more = let e : p + 1 ≤ q + 1 = omega arith in omega (arith, mul-le-mul more e)

-- the new list has no break in it
opened_broken : (isList : Bool) {b n : ℕ} → b ≤ n → b ≤ cond isList (n + 1) n
opened_broken true h = omega arith
opened_broken false h = h

-- a list more or none: one is open
still_open : (isList : Bool) (n : ℕ) → 1 ≤ n → leb 1 (cond isList (n + 1) n) ≡ true
still_open true n h = le-leb 1 (n + 1) (omega arith)
still_open false n h = le-leb 1 n h

-- a close comes after no finish
no_last_break : (n : ℕ) → last_break (phase_after n) ≡ 0
unfolding phase_after
no_last_break n = split (eqb n 0) (λ e. rw e) (λ e. rw e)

closed_fit : (n : ℕ) → lists_fit (phase_after n) n ≡ true
unfolding phase_after
closed_fit n = split (eqb n 0) (λ e. rw e e) (λ e. rw e (le-leb 1 n (omega (arith, eqb-false n 0 e))))

module _ (s : Style) (w : Serializer) (h : Sound w) where
  -- the breaks are at most the bytes, but where the text is done
  breaks_in : last_break w.phase ≡ 0 → w.breaks ≤ w.position
  breaks_in e = omega (arith, (rw e at h.checked.lines))

  first_atom_lem : (a : List ℕ) → w.phase ≡ Beginning → end_of w (first_atom w a) ≤ limit → Sound (first_atom w a).after
  unfolding first_atom
  first_atom_lem a f e = record {
    checked = record { place = omega arith; line = omega (arith, h.checked.line); depth = omega arith; broken = omega arith; opens = refl; gaps = omega (arith, h.checked.gaps); lines = omega (arith, breaks_in (rw f)) };
    steps = stay w.position h.steps (omega arith);
  }

  first_list_lem : w.phase ≡ Beginning → end_of w (first_list w) ≤ limit → Sound (first_list w).after
  unfolding first_list
  first_list_lem f e = record {
    checked = record { place = omega arith; line = omega arith; depth = omega arith; broken = omega arith; opens = refl; gaps = omega (arith, h.checked.gaps); lines = omega (arith, breaks_in (rw f)) };
    steps = stay w.position h.steps (omega arith);
  }

  module _ (f : w.phase ≡ Writing) where
    one_open : 1 ≤ w.lists
    one_open = leb-true 1 w.lists (rw f at h.checked.opens)

    inner_as_lem : (a : List ℕ) (isList : Bool) → 1 ≤ length a → (g : Gap) → end_of w (inner_as s w a isList g) ≤ limit → Sound (inner_as s w a isList g).after
    unfolding inner_as laid
    inner_as_lem a isList one new_line e = record {
      checked = record { place = e; line = rw (layout_length s.line_break w.lists s.indentation) (omega arith); depth = opened isList h.checked.depth (omega arith); broken = opened_broken isList (omega arith); opens = still_open isList w.lists one_open; gaps = omega (arith, h.checked.gaps); lines = omega (arith, breaks_in (rw f)) };
      steps = rise w.position h.steps h.checked.depth (omega arith);
    }
    inner_as_lem a isList one nothing e = record {
      checked = record { place = e; line = omega (arith, h.checked.line); depth = opened isList h.checked.depth (omega arith); broken = opened_broken isList h.checked.broken; opens = still_open isList w.lists one_open; gaps = omega (arith, h.checked.gaps); lines = omega (arith, breaks_in (rw f)) };
      steps = stay w.position h.steps (omega arith);
    }
    inner_as_lem a isList one space e = record {
      checked = record { place = e; line = omega (arith, h.checked.line); depth = opened isList h.checked.depth (omega arith); broken = opened_broken isList h.checked.broken; opens = still_open isList w.lists one_open; gaps = omega (arith, h.checked.gaps); lines = omega (arith, breaks_in (rw f)) };
      steps = stay w.position h.steps (omega arith);
    }

    inside : (a : List ℕ) (isList : Bool) (t : ℕ) → 1 ≤ length a → end_of w (inner s w a isList t) ≤ limit → Sound (inner s w a isList t).after
    unfolding inner
    inside a isList t one e = inner_as_lem a isList one (gap_at w t) e

    close_as_lem : (b : Bool) → end_of w (close_as s w b) ≤ limit → Sound (close_as s w b).after
    unfolding close_as
    close_as_lem true e = record {
      checked = record { place = e; line = rw (layout_length s.line_break (w.lists - 1) s.indentation) (omega arith); depth = omega (arith, h.checked.depth); broken = omega arith; opens = closed_fit (w.lists - 1); gaps = omega (arith, h.checked.gaps); lines = rw (no_last_break (w.lists - 1)) (omega (arith, breaks_in (rw f))) };
      steps = rise w.position h.steps (omega (arith, h.checked.depth)) (omega arith);
    }
    close_as_lem false e = record {
      checked = record { place = e; line = omega (arith, h.checked.line); depth = omega (arith, h.checked.depth); broken = omega arith; opens = closed_fit (w.lists - 1); gaps = omega (arith, h.checked.gaps); lines = rw (no_last_break (w.lists - 1)) (omega (arith, breaks_in (rw f))) };
      steps = stay w.position h.steps (omega arith);
    }

    closing : end_of w (close s w) ≤ limit → Sound (close s w).after
    unfolding close
    closing e = close_as_lem (eqb w.broken w.lists) e

  ending : (wished : Bool) → w.phase ≡ Finished → end_of w (last s w wished) ≤ limit → Sound (last s w wished).after
  unfolding last
  ending true f e = record {
    checked = record { place = omega arith; line = omega (arith, h.checked.line); depth = omega (arith, h.checked.depth); broken = h.checked.broken; opens = rw f at h.checked.opens; gaps = omega (arith, h.checked.gaps); lines = omega (arith, breaks_in (rw f)) };
    steps = stay w.position h.steps (omega arith);
  }
  ending false f e = record {
    checked = record { place = omega arith; line = omega (arith, h.checked.line); depth = omega (arith, h.checked.depth); broken = h.checked.broken; opens = rw f at h.checked.opens; gaps = omega (arith, h.checked.gaps); lines = omega (arith, breaks_in (rw f)) };
    steps = stay w.position h.steps (omega arith);
  }

  pub piece_kept : (c : Call) (p : Piece) → Puts s w c p → end_of w p ≤ limit → Sound p.after
  piece_kept c p (atom_alone {a = a} f k) e = first_atom_lem a f e
  piece_kept c p (atom_inside {a = a} {t = t} f k) e = inside f a false t (atom_bytes_lem a k) e
  piece_kept c p (list_first f) e = first_list_lem f e
  piece_kept c p (list_inside {t = t} f) e = inside f (40 ∷ []) true t (omega arith) e
  piece_kept c p (list_closed f) e = closing f e
  piece_kept c p (text_ended {wished = wished} f) e = ending wished f e

  verdict_kept : {room : ℕ} (c : Call) (r : Written) → Verdict s room w c r → Sound r.serializer
  verdict_kept c r (refuses n u) = h
  verdict_kept c r (puts p o q) = piece_kept c p o (omega (arith, q))

is_sound_lem : (w : Serializer) → Sound w → is_sound w ≡ true
is_sound_lem w h = sym (checked_sound w h.checked) ∙ le-leb _ _ h.steps

pub fresh_sound : is_sound fresh_serializer ≡ true
unfolding fresh_serializer is_sound
fresh_sound = refl

pub sound_kept : (s : Style) (room : ℕ) (w : Serializer) (c : Call) → is_sound w ≡ true → is_sound (step s room w c).serializer ≡ true
sound_kept s room w c h = is_sound_lem (step s room w c).serializer (verdict_kept s w (sound w h) {room = room} c (step s room w c) (verdict s room w c))
