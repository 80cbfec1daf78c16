-- What a tree call does in one buffer, written or measured, decides what it does in every other: if it is written there and leaves the position n, each buffer
-- of n bytes or more has the same record, answer and bytes, each shorter one 22; and what 16,777,216 bytes refuse, each buffer refuses by the same number.
-- Assumes nothing.
use Prim.Native.Nat.{ℕ, ◌≤◌, ◌<◌}
use native.Mathlib.Omega.{arith}
use mathlib.Core.Path.{◌≡◌, sym, ap, ◌∙◌}
use mathlib.Core.Bool.{true, false≢true}
use mathlib.Core.List.{List, [], ◌∷◌}
use lib.ListN.{length, take}
use borrow.Author.Tests.{le-leb, lt-leb}
use Rattle.sise_util.proofs.Ranges.{split}
use Rattle.sise_serializer.specs.Serializer.{Style, limit, fresh_serializer}
use Rattle.sise_serializer.specs.declared.serializer.Serializer.{Serializer}
use Rattle.sise_serializer.specs.Calls.{Call, run}
use Rattle.sise_tree.specs.Tree.{Node}
use Rattle.sise_tree.specs.Answers.{Answer, answered, refused_with}
use Rattle.sise_tree_writer.specs.SerializeTree.{fits, Writes, refuse, first_offset, written, write_tree}
use Rattle.sise_tree_writer.proofs.Measuring.{no_answer, same_number, on_answer, left, written_on, written_off, Tested, fails, passes, tested}
use Rattle.sise_tree_layout.proofs.Rooms.{exact_room, alike, larger, text_alike}

-- what is the same has the same answer
same_answer : {d d' : Writes} {a : Answer} → d ≡ d' → d.answer ≡ a → d'.answer ≡ a
same_answer e h = sym (ap (λ (x : Writes). x.answer) e) ∙ h

-- d', in the buffer b', is as d, in another: with room for its bytes record and answer are the same, and else it is refused with 22
pub record SameWithRoom (w : Serializer) (d d' : Writes) (b' : List ℕ) : Type 0 where
  pub serializer : d.serializer.position ≤ length b' → d'.serializer ≡ d.serializer
  pub answer : d.serializer.position ≤ length b' → d'.answer ≡ d.answer
  pub short : length b' < d.serializer.position → d' ≡ refuse 22 b' w

module _ (s : Style) (b b' : List ℕ) (w : Serializer) where
  more_measured : (c : Call) (cs : List Call) → fits s (length b) w (c ∷ cs) ≡ true → SameWithRoom w (written s b w (c ∷ cs)) (written s b' w (c ∷ cs)) b'
  more_measured c cs f =
      let l = c ∷ cs in
      let n = (run s b w l).last.position in
      let fit : n ≤ length b' → written s b' w l ≡ left s b' w l = λ le. written_on s b' w l (exact_room s b w c cs f (length b') ∙ le-leb n (length b') le) in
      rw (written_on s b w l f)
      (record {
        serializer = λ le. ap (λ (x : Writes). x.serializer) (fit le) ∙ sym (alike s l w b b' f le).last;
        answer = λ le. ap (λ (x : Writes). x.answer) (fit le) ∙ sym (ap first_offset (alike s l w b b' f le).answers);
        short = λ lt. written_off s b' w l (exact_room s b w c cs f (length b') ∙ lt-leb n (length b') lt);
      })

  -- calls that answer an offset in the buffer b
  pub written_measured : (cs : List Call) {o : ℕ} → (written s b w cs).answer ≡ answered o → SameWithRoom w (written s b w cs) (written s b' w cs) b'
  written_measured [] h = unfold written fits run in no_answer h
  written_measured (c ∷ cs) h =
      split (fits s (length b) w (c ∷ cs)) (λ f. more_measured c cs f)
      (λ f. no_answer (same_answer (written_off s b w (c ∷ cs) f) h))

  -- calls that a buffer of 16,777,216 bytes or more refuses, each buffer refuses
  pub written_refused : (cs : List Call) {k : ℕ} → limit ≤ length b → (written s b w cs).answer ≡ refused_with k → written s b' w cs ≡ refuse k b' w
  written_refused [] le h = unfold written fits run in ap (λ (n : ℕ). refuse n b' w) (same_number h)
  written_refused (c ∷ cs) le h =
      split (fits s (length b) w (c ∷ cs))
      (λ f. let (o, e) = on_answer s b w c cs f in no_answer (sym h ∙ e))
      (λ f.
      let z = same_number (same_answer (written_off s b w (c ∷ cs) f) h) in
      let off = split (fits s (length b') w (c ∷ cs)) (λ g. absurd (false≢true (sym f ∙ (larger s (c ∷ cs) w b' b (omega arith) g).0))) (λ g. g) in
      written_off s b' w (c ∷ cs) off ∙ ap (λ (n : ℕ). refuse n b' w) z)

-- the bytes up to the position
abbrev pub bytes_in : Writes → List ℕ
bytes_in d = take d.serializer.position d.buffer

-- from a fresh record they are the same
written_bytes : (s : Style) (b b' : List ℕ) (cs : List Call) {o : ℕ} → (written s b fresh_serializer cs).answer ≡ answered o
    → (written s b fresh_serializer cs).serializer.position ≤ length b' → bytes_in (written s b fresh_serializer cs) ≡ bytes_in (written s b' fresh_serializer cs)
written_bytes s b b' [] h le = unfold written fits run in no_answer h
written_bytes s b b' (c ∷ cs) h le =
    let w = fresh_serializer in
    let l = c ∷ cs in
    split (fits s (length b) w l)
    (λ f.
    let on = written_on s b w l f in
    let n = (run s b w l).last.position in
    let f' = exact_room s b w c cs f (length b') ∙ le-leb n (length b') (rw on at le) in
    ap bytes_in on ∙ text_alike s l b b' f f' ∙ sym (ap bytes_in (written_on s b' w l f')))
    (λ f. no_answer (same_answer (written_off s b w l f) h))

-- ---- a tree

module _ (s : Style) (w : Serializer) (text : List ℕ) (calls : Node → List Call) where
  module _ (b words b' : List ℕ) where
    -- a tree call that answers an offset in the buffer b
    pub tree_measured : {o : ℕ} → (write_tree s b w text words calls).answer ≡ answered o → SameWithRoom w (write_tree s b w text words calls) (write_tree s b' w text words calls) b'
    tree_measured h = of (tested s w text words)
      where
        of : Tested s w text words → SameWithRoom w (write_tree s b w text words calls) (write_tree s b' w text words calls) b'
        of (fails k lt q) = no_answer (same_answer (q b calls) h)
        of (passes n d a f v q) = rw (q b calls, q b' calls) (written_measured s b b' w (calls n) (same_answer (q b calls) h))

    -- a tree call that a buffer of 16,777,216 bytes or more refuses, each buffer refuses with the same number
    pub tree_refused : (k : ℕ) → limit ≤ length b → (write_tree s b w text words calls).answer ≡ refused_with k → write_tree s b' w text words calls ≡ refuse k b' w
    tree_refused k le h = of (tested s w text words)
      where
        of : Tested s w text words → write_tree s b' w text words calls ≡ refuse k b' w
        of (fails n lt q) = q b' calls ∙ ap (λ (m : ℕ). refuse m b' w) (same_number (same_answer (q b calls) h))
        of (passes n d a f v q) = q b' calls ∙ written_refused s b b' w (calls n) le (same_answer (q b calls) h)

-- and in every buffer that holds it a whole text has the same bytes
module _ (s : Style) (text : List ℕ) (calls : Node → List Call) (b words b' : List ℕ) where
  abbrev whole : List ℕ → Writes
  whole x = write_tree s x fresh_serializer text words calls

  bytes_of : Tested s fresh_serializer text words → {o : ℕ} → (whole b).answer ≡ answered o → (whole b).serializer.position ≤ length b' → bytes_in (whole b) ≡ bytes_in (whole b')
  bytes_of (fails k lt q) h le = no_answer (same_answer (q b calls) h)
  bytes_of (passes n d a f v q) h le =
      ap bytes_in (q b calls)
      ∙ written_bytes s b b' (calls n) (same_answer (q b calls) h) (rw (q b calls) at le)
      ∙ sym (ap bytes_in (q b' calls))

  pub tree_bytes : {o : ℕ} → (write_tree s b fresh_serializer text words calls).answer ≡ answered o → (write_tree s b fresh_serializer text words calls).serializer.position ≤ length b'
      → bytes_in (write_tree s b fresh_serializer text words calls) ≡ bytes_in (write_tree s b' fresh_serializer text words calls)
  tree_bytes h le = bytes_of (tested s fresh_serializer text words) h le
