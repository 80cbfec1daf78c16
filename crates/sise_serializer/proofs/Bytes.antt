-- Bytes pasted one after another are pasted at once, and leave the length; and how long repeated bytes are.
-- Assumes nothing.
use Prim.Native.Nat.{ℕ, zero, suc, ◌+◌, ◌*◌, ◌≤◌, ◌<◌}
use native.Mathlib.Nat.{zero-mul, suc-mul, suc-add, zero-add, add_assoc}
use native.Mathlib.Numerals.{add-one}
use native.Mathlib.Omega.{arith}
use borrow.Rule.Slice.PartMut.{put_mid}
use Rattle.std.specs.Prelude.{All, leb, get_or, replicate}
use Rattle.std.proofs.lemmas.List.Elements.{All-head, All-tail}
use Rattle.std.proofs.lemmas.Slice.{put_mid-paste}
use mathlib.Core.Path.{◌≡◌, refl, sym, ap, ◌∙◌}
use mathlib.Core.Bool.{Bool, true, false, cond}
use mathlib.Core.List.{List, [], ◌∷◌, ◌++◌, append_assoc, append-nil}
use lib.ListN.{length, set, take, drop, length-append, length-take, length-drop}
use lib.Seq.{paste, paste-zero, take-length, take_at, drop_at, drop-drop, set_split}
use borrow.Author.Tests.{le-leb, lt-leb}
use Rattle.sise_serializer.specs.Bytes.{pasted, pasted_if, repeat}

pub repeat_length : (n : ℕ) (b : List ℕ) → length (repeat n b) ≡ n * length b
repeat_length zero b = sym (zero-mul (length b))
repeat_length (suc n) b = length-append b (repeat n b) ∙ omega (arith, repeat_length n b, suc-mul n (length b))

pub repeat_more : (n : ℕ) (b : List ℕ) → repeat n b ++ b ≡ repeat (suc n) b
repeat_more zero b = sym (append-nil b)
repeat_more (suc n) b = append_assoc b (repeat n b) b ∙ ap (λ (l : List ℕ). b ++ l) (repeat_more n b)

pub pasted_none : (l : List ℕ) (at : ℕ) → pasted l at [] ≡ l
unfolding pasted
pasted_none l at = sym (paste-zero l at [])

-- the standard library's paste, of all of b
pub pasted_paste : (l : List ℕ) (at : ℕ) (b : List ℕ) → paste l at b (length b) ≡ pasted l at b
unfolding pasted
pasted_paste l at b = rw (take-length b)

-- what a write to a part of l left: b, if the part holds b now
pub pasted_part : (l : List ℕ) (at k : ℕ) (part b : List ℕ) → part ≡ b → length b ≡ k → put_mid at k l part ≡ pasted l at b
pasted_part l at k part b e h = put_mid-paste at k l part b (length b) e h refl ∙ pasted_paste l at b

module _ (l : List ℕ) (at : ℕ) (a : List ℕ) (room : at + length a ≤ length l) where
  pub head-length : length (take at l ++ a) ≡ at + length a
  head-length = simp (length-append, length-take) (omega arith)

  pub pasted_length : length (pasted l at a) ≡ length l
  unfolding pasted
  pasted_length =
      length-append (take at l ++ a) (drop (at + length a) l)
      ∙ ap (λ (n : ℕ). n + length (drop (at + length a) l)) head-length
      ∙ ap (λ (n : ℕ). at + length a + n) (length-drop (at + length a) l)
      ∙ omega arith

  -- b right behind a
  pub pasted_more : (b : List ℕ) → pasted (pasted l at a) (at + length a) b ≡ pasted l at (a ++ b)
  unfolding pasted
  pasted_more b =
      let p = take at l ++ a in
      let q = drop (at + length a) l in
      rw (take_at p q (at + length a) head-length, ← drop-drop (length b) (at + length a) (p ++ q), drop_at p q (at + length a) head-length, drop-drop, length-append, ← add_assoc)
      (simp append_assoc)

-- b right behind k times b
pub pasted_again : (l : List ℕ) (at k : ℕ) (b : List ℕ) → at + length (repeat k b) ≤ length l
    → pasted (pasted l at (repeat k b)) (at + length (repeat k b)) b ≡ pasted l at (repeat (k + 1) b)
pasted_again l at k b h = rw (pasted_more l at (repeat k b) h b, repeat_more, add-one)

pub repeat_length_more : (k : ℕ) (b : List ℕ) → length (repeat (k + 1) b) ≡ length (repeat k b) + length b
repeat_length_more k b = rw (add-one, ← repeat_more) (length-append (repeat k b) b)

-- one byte, again and again
pub repeat_replicate : (n b : ℕ) → replicate n b ≡ repeat n (b ∷ [])
repeat_replicate zero b = refl
repeat_replicate (suc n) b = ap (λ (l : List ℕ). b ∷ l) (repeat_replicate n b)

pub repeat_all : (l : List ℕ) (b : ℕ) → All (λ (x : ℕ). x ≡ b) l → l ≡ repeat (length l) (b ∷ [])
repeat_all [] b h = refl
repeat_all (x ∷ l) b h =
    let P : ℕ → Type 0 = λ y. y ≡ b in
    ap (λ (y : ℕ). y ∷ l) (All-head P x l h) ∙ ap (λ (m : List ℕ). b ∷ m) (repeat_all l b (All-tail P x l h))

-- n copies of m copies
repeat_add : (m n : ℕ) (b : List ℕ) → repeat m b ++ repeat n b ≡ repeat (m + n) b
repeat_add zero n b = ap (λ (k : ℕ). repeat k b) (sym (zero-add n))
repeat_add (suc m) n b = append_assoc b (repeat m b) (repeat n b) ∙ ap (λ (l : List ℕ). b ++ l) (repeat_add m n b) ∙ ap (λ (k : ℕ). repeat k b) (sym (suc-add m n))

pub repeat_repeat : (n m : ℕ) (b : List ℕ) → repeat n (repeat m b) ≡ repeat (n * m) b
repeat_repeat zero m b = ap (λ (k : ℕ). repeat k b) (sym (zero-mul m))
repeat_repeat (suc n) m b =
    let size : m + n * m ≡ suc n * m = omega (arith, suc-mul n m) in
    ap (λ (l : List ℕ). repeat m b ++ l) (repeat_repeat n m b) ∙ repeat_add m (n * m) b ∙ ap (λ (k : ℕ). repeat k b) size

-- bytes with room, and without
module _ (l : List ℕ) (at : ℕ) (b : List ℕ) where
  pub pasted_if_lem : at + length b ≤ length l → pasted_if l at b ≡ pasted l at b
  unfolding pasted_if
  pasted_if_lem h = rw (le-leb (at + length b) (length l) h)

  pub pasted_not : length l < at + length b → pasted_if l at b ≡ l
  unfolding pasted_if
  pasted_not h = rw (lt-leb (at + length b) (length l) h)

-- nothing to write: all stays, with room or without
either : (b : Bool) (l : List ℕ) → cond b l l ≡ l
either true l = refl
either false l = refl

pub pasted_if_none : (l : List ℕ) (at : ℕ) → pasted_if l at [] ≡ l
unfolding pasted_if
pasted_if_none l at = rw (pasted_none l at, either (leb (at + 0) (length l)) l)

-- one byte
pub pasted_one : (l : List ℕ) (at b : ℕ) → at < length l → set l at b ≡ pasted l at (b ∷ [])
unfolding pasted
pasted_one l at b h = set_split l at b h ∙ ap (λ (k : ℕ). take at l ++ b ∷ drop k l) (sym (add-one at)) ∙ sym (append_assoc (take at l) (b ∷ []) (drop (at + 1) l))

pub pasted_single : (l : List ℕ) (at : ℕ) (b : List ℕ) → at < length l → length b ≡ 1 → set l at (get_or b 0 0) ≡ pasted l at b
pasted_single l at [] h e = absurd (omega arith)
pasted_single l at (x ∷ []) h e = pasted_one l at x h
pasted_single l at (x ∷ y ∷ b) h e = absurd (omega arith)

-- bytes written right behind others
pub pasted_behind : (l : List ℕ) (at : ℕ) (a b : List ℕ) {m now : List ℕ} {to : ℕ} → m ≡ pasted l at a → to ≡ at + length a → now ≡ pasted m to b → at + length a ≤ length l
    → now ≡ pasted l at (a ++ b)
pasted_behind l at a b e f g h = g ∙ rw (e, f) (pasted_more l at a h b)

-- layout: a lead and n indentations
pub layout_length : (a : List ℕ) (n : ℕ) (b : List ℕ) → length (a ++ repeat n b) ≡ length a + n * length b
layout_length a n b = rw (length-append a (repeat n b), repeat_length n b)
