-- A call that may be made puts one piece, in whatever room: it is accepted where the piece's end lies in the room, and else refused with 22.
-- Assumes nothing.
use Prim.Native.Nat.{ℕ, ◌+◌, ◌≤◌, ◌<◌, min}
use native.Mathlib.Omega.{arith}
use mathlib.Core.Path.{◌≡◌, sym, ap, ◌∙◌}
use mathlib.Core.Bool.{true, ◌&&◌, false≢true}
use mathlib.Core.List.{List, ◌∷◌, ◌++◌}
use lib.ListN.{length, length-append}
use borrow.Author.Tests.{le-leb, lt-leb}
use Rattle.sise_util.proofs.Ranges.{split, and_first}
use Rattle.sise_serializer.specs.Serializer as writer
use Rattle.sise_serializer.specs.Serializer.{Style, Piece, Written, limit, is_sound, place, first_atom, first_list, inner, inner_as, close, close_as, last, put_in, put_atom, begin_in, begin_list, end_in, end_list, finish_in, finish_writing}
use Rattle.sise_serializer.specs.declared.serializer.Phase.{Phase}
use Rattle.sise_serializer.specs.declared.serializer.Serializer.{Serializer}
use Rattle.sise_serializer.proofs.Does.{unsound_call}
use Rattle.sise_serializer.proofs.Kept.{sound_kept}
use Rattle.sise_serializer.specs.Bytes.{pasted}
use Rattle.sise_serializer.specs.Calls.{is_accepted, Call, step, run}
use Rattle.sise_serializer.proofs.Bytes.{pasted_length}
use Rattle.sise_serializer.proofs.Verdicts.{end_of, put, Puts, atom_alone, atom_inside, list_first, list_inside, list_closed, text_ended, Verdict, refuses, puts, verdict}
use Rattle.sise_tree_writer.specs.SerializeTree.{fits}

-- a piece with room, and one without
module _ (room : ℕ) (w : Serializer) (p : Piece) where
  pub placed : end_of w p ≤ min room limit → place room w p ≡ put w p
  unfolding place
  placed h = rw (le-leb (end_of w p) (min room limit) h)

  pub not_placed : min room limit < end_of w p → place room w p ≡ writer.refuse 22 w
  unfolding place
  not_placed h = rw (lt-leb (end_of w p) (min room limit) h)

-- a piece ends where the record behind it is
pub puts_end : {s : Style} {w : Serializer} {c : Call} {p : Piece} → Puts s w c p → p.after.position ≡ end_of w p
unfolding first_atom first_list inner inner_as close close_as last
puts_end (atom_alone e f) = omega arith
puts_end (atom_inside e f) = omega arith
puts_end (list_first e) = omega arith
puts_end (list_inside e) = omega arith
puts_end (list_closed e) = omega arith
puts_end (text_ended e) = omega arith

module _ (s : Style) (room : ℕ) (w : Serializer) where
  -- from a sound record
  pub puts_place : {c : Call} {p : Piece} → is_sound w ≡ true → Puts s w c p → step s room w c ≡ place room w p
  unfolding step put_atom put_in begin_list begin_in end_list end_in finish_writing finish_in
  puts_place h (atom_alone {a = a} {t = t} e f) = rw (h, f) (ap (λ (q : Phase). put_in q s room w a t) e)
  puts_place h (atom_inside {a = a} {t = t} e f) = rw (h, f) (ap (λ (q : Phase). put_in q s room w a t) e)
  puts_place h (list_first {t = t} e) = rw h (ap (λ (q : Phase). begin_in q s room w t) e)
  puts_place h (list_inside {t = t} e) = rw h (ap (λ (q : Phase). begin_in q s room w t) e)
  puts_place h (list_closed e) = rw h (ap (λ (q : Phase). end_in q s room w) e)
  puts_place h (text_ended {wished = wished} e) = rw h (ap (λ (q : Phase). finish_in q s room w wished) e)

-- a sound record is sound after each piece that is put
pub puts_sound : {s : Style} {w : Serializer} {c : Call} {p : Piece} → is_sound w ≡ true → Puts s w c p → end_of w p ≤ limit → is_sound p.after ≡ true
puts_sound {s} {w} {c} {p} h q e =
    sym (ap (λ (r : Written). is_sound r.serializer) (puts_place s limit w h q ∙ placed limit w p (omega arith))) ∙ sound_kept s limit w c h

-- a call that puts a piece leaves the fitting to the rest
pub put_fits : (s : Style) (room : ℕ) (w : Serializer) (c : Call) (cs : List Call) (p : Piece) → step s room w c ≡ put w p → fits s room w (c ∷ cs) ≡ fits s room p.after cs
unfolding fits
put_fits s room w c cs p e = ap (λ (r : Written). is_accepted r.answer && fits s room r.serializer cs) e

-- a call that one room accepts
pub record Lands (s : Style) (room : ℕ) (w : Serializer) (c : Call) : Type 0 where
  pub piece : Piece
  pub sound : is_sound w ≡ true
  pub puts : Puts s w c piece
  pub fit : end_of w piece ≤ min room limit

module _ (s : Style) (room : ℕ) (w : Serializer) (c : Call) where
  lands_of : (r : Written) → Verdict s room w c r → is_sound w ≡ true → is_accepted r.answer ≡ true → Lands s room w c
  lands_of r (refuses n u) h a = absurd (false≢true a)
  lands_of r (puts p q f) h a = record { piece = p; sound = h; puts = q; fit = f }

  pub lands : is_accepted (step s room w c).answer ≡ true → Lands s room w c
  lands a =
      split (is_sound w)
      (λ h. lands_of (step s room w c) (verdict s room w c) h a)
      (λ h. absurd (false≢true (sym (ap (λ (r : Written). is_accepted r.answer) (unsound_call s room w c h)) ∙ a)))

-- it puts its piece
pub lands_put : {s : Style} {room : ℕ} {w : Serializer} {c : Call} (k : Lands s room w c) → step s room w c ≡ put w k.piece
lands_put {s} {room} {w} {c} k = puts_place s room w k.sound k.puts ∙ placed room w k.piece k.fit

-- of calls that fit, the first is accepted
pub fits_lands : (s : Style) (room : ℕ) (w : Serializer) (c : Call) (cs : List Call) → fits s room w (c ∷ cs) ≡ true → Lands s room w c
unfolding fits
fits_lands s room w c cs h = lands s room w c (and_first (is_accepted (step s room w c).answer) _ h)

-- the first of calls over a buffer b, accepted there

module _ (s : Style) (b : List ℕ) (w : Serializer) (c : Call) (k : Lands s (length b) w c) where
  -- the buffer behind it
  abbrev pub now : List ℕ
  now = pasted b w.position (k.piece.layout ++ k.piece.token)

  pub now_long : length now ≡ length b
  now_long = pasted_length b w.position (k.piece.layout ++ k.piece.token) (omega (arith, length-append k.piece.layout k.piece.token, k.fit))

  module _ (cs : List Call) where
    pub lands_last : (run s b w (c ∷ cs)).last ≡ (run s now k.piece.after cs).last
    unfolding run
    lands_last = ap (λ (r : Written). (run s (pasted b w.position r.bytes) r.serializer cs).last) (lands_put k)

    pub lands_answers : (run s b w (c ∷ cs)).answers ≡ writer.Answer.accepted (w.position + length k.piece.layout) ∷ (run s now k.piece.after cs).answers
    unfolding run
    lands_answers = ap (λ (r : Written). r.answer ∷ (run s (pasted b w.position r.bytes) r.serializer cs).answers) (lands_put k)

    pub lands_fits : fits s (length b) w (c ∷ cs) ≡ fits s (length now) k.piece.after cs
    lands_fits = put_fits s (length b) w c cs k.piece (lands_put k) ∙ ap (λ (n : ℕ). fits s n k.piece.after cs) (sym now_long)
