-- Calls that are all accepted in one buffer, and leave the position n, are accepted in every buffer of n bytes or more, with the same record, answers and
-- bytes, and in no shorter one: each call puts its piece whatever the room, and the position never goes down.
-- Assumes nothing.
use Prim.Native.Nat.{ℕ, ◌+◌, ◌≤◌, min}
use native.Mathlib.Omega.{arith}
use mathlib.Core.Path.{◌≡◌, refl, sym, ap, ◌∙◌}
use mathlib.Core.Bool.{true, false≢true}
use mathlib.Core.List.{List, [], ◌∷◌, ◌++◌}
use lib.Dec.{leb}
use lib.ListN.{length}
use borrow.Author.Tests.{le-leb, lt-leb, leb-true, leb-false}
use Rattle.sise_util.proofs.Ranges.{split, and_first, and_second}
use Rattle.sise_serializer.specs.Serializer as writer
use Rattle.sise_serializer.specs.Serializer.{Style, Written, limit, fresh_serializer}
use Rattle.sise_serializer.specs.declared.serializer.Serializer.{Serializer}
use Rattle.sise_serializer.specs.Calls.{is_accepted, Call, step, run, writing}
use Rattle.sise_layout.specs.Texts.{text_of}
use Rattle.sise_layout.proofs.Buffers.{same_text}
use Rattle.sise_layout.proofs.Written.{writes}
use Rattle.sise_serializer.proofs.Verdicts.{end_of}
use Rattle.sise_tree_writer.specs.SerializeTree.{fits}
use Rattle.sise_tree_writer.proofs.CallLaws.{fits_off}
use Rattle.sise_tree_writer.proofs.Placing.{placed, not_placed, puts_end, puts_place, put_fits, Lands, lands, fits_lands, now, now_long, lands_last, lands_answers, lands_fits}

-- ---- all of the calls

-- the position does not go down, and stays below the limit
record Grows (w v : Serializer) : Type 0 where
  up : w.position ≤ v.position
  below : w.position ≤ limit → v.position ≤ limit

grows : (s : Style) (cs : List Call) (b : List ℕ) (w : Serializer) → fits s (length b) w cs ≡ true → Grows w (run s b w cs).last
unfolding run
grows s [] b w h = record { up = omega arith; below = λ le. le }
grows s (c ∷ cs) b w h =
    let k = fits_lands s (length b) w c cs h in
    let more = grows s cs (now s b w c k) k.piece.after (sym (lands_fits s b w c k cs) ∙ h) in
    let z = puts_end k.puts in
    rw (lands_last s b w c k cs)
    (record { up = omega (arith, more.up); below = λ _. more.below (omega (arith, k.fit)) })

module _ (s : Style) (room : ℕ) where
  -- calls from a record that lies in the room fit exactly if what they write elsewhere ends in it
  abbrev Exact : List Call → Type 0
  Exact cs = (b : List ℕ) (w : Serializer) → fits s (length b) w cs ≡ true → w.position ≤ room → fits s room w cs ≡ leb (run s b w cs).last.position room

  exact_on : (c : Call) (cs : List Call) → Exact cs → (b : List ℕ) (w : Serializer) → fits s (length b) w (c ∷ cs) ≡ true → fits s room w (c ∷ cs) ≡ leb (run s b w (c ∷ cs)).last.position room
  exact_on c cs more b w h =
      let k = fits_lands s (length b) w c cs h in
      let p = k.piece in
      let rest = sym (lands_fits s b w c k cs) ∙ h in
      let z = puts_end k.puts in
      rw (lands_last s b w c k cs)
      (split (leb (end_of w p) room)
      (λ e.
      let le = leb-true (end_of w p) room e in
      put_fits s room w c cs p (puts_place s room w k.sound k.puts ∙ placed room w p (omega (arith, k.fit))) ∙ more (now s b w c k) p.after rest (omega arith))
      (λ e.
      let lt = leb-false (end_of w p) room e in
      let up = (grows s cs (now s b w c k) p.after rest).up in
      fits_off s room w c cs (ap (λ (r : Written). r.answer) (puts_place s room w k.sound k.puts ∙ not_placed room w p (omega arith)))
      ∙ sym (lt-leb (run s (now s b w c k) p.after cs).last.position room (omega arith))))

  exact_from : (cs : List Call) → Exact cs
  unfolding fits run
  exact_from [] b w h le = sym (le-leb w.position room le)
  exact_from (c ∷ cs) b w h le = exact_on c cs (exact_from cs) b w h

-- calls that a buffer holds, and that leave the position n: they fit exactly where there is room for n bytes
pub exact_room : (s : Style) (b : List ℕ) (w : Serializer) (c : Call) (cs : List Call) → fits s (length b) w (c ∷ cs) ≡ true
    → (room : ℕ) → fits s room w (c ∷ cs) ≡ leb (run s b w (c ∷ cs)).last.position room
exact_room s b w c cs h room = exact_on s room c cs (exact_from s room cs) b w h

-- the calls leave one record and have the same answers in both buffers
pub record RunsAlike (s : Style) (w : Serializer) (cs : List Call) (b b' : List ℕ) : Type 0 where
  pub last : (run s b w cs).last ≡ (run s b' w cs).last
  pub answers : (run s b w cs).answers ≡ (run s b' w cs).answers

-- a buffer that holds what the calls write in another is as good as that
pub alike : (s : Style) (cs : List Call) (w : Serializer) (b b' : List ℕ) → fits s (length b) w cs ≡ true → (run s b w cs).last.position ≤ length b' → RunsAlike s w cs b b'
unfolding run
alike s [] w b b' h le = record { last = refl; answers = refl }
alike s (c ∷ cs) w b b' h le =
    let k = fits_lands s (length b) w c cs h in
    let v = k.piece.after in
    let f = sym (lands_fits s b w c k cs) ∙ h in
    let up = (grows s cs (now s b w c k) v f).up in
    let end : (run s (now s b w c k) v cs).last.position ≤ length b' = rw (lands_last s b w c k cs) at le in
    let k' : Lands s (length b') w c = record { piece = k.piece; sound = k.sound; puts = k.puts; fit = omega (arith, puts_end k.puts, k.fit) } in
    let more = alike s cs v (now s b w c k) (now s b' w c k') f (omega (arith, now_long s b' w c k')) in
    record {
      last = lands_last s b w c k cs ∙ more.last ∙ sym (lands_last s b' w c k' cs);
      answers = lands_answers s b w c k cs ∙ ap (λ (l : List writer.Answer). writer.Answer.accepted (w.position + length k.piece.layout) ∷ l) more.answers ∙ sym (lands_answers s b' w c k' cs);
    }

-- the calls fit in a larger buffer too, and in one of 16,777,216 bytes, and there they do the same
pub larger : (s : Style) (cs : List Call) (w : Serializer) (b b' : List ℕ) → min (length b) limit ≤ length b' → fits s (length b) w cs ≡ true
    → (fits s (length b') w cs ≡ true) × RunsAlike s w cs b b'
unfolding fits run
larger s [] w b b' le h = (refl, record { last = refl; answers = refl })
larger s (c ∷ cs) w b b' le h =
    let n = (run s b w (c ∷ cs)).last.position in
    let k = fits_lands s (length b) w c cs h in
    let low : n ≤ length b = leb-true n (length b) (sym (exact_room s b w c cs h (length b)) ∙ h) in
    let few : n ≤ limit = (grows s (c ∷ cs) b w h).below (omega (arith, k.fit)) in
    (exact_room s b w c cs h (length b') ∙ le-leb n (length b') (omega arith), alike s (c ∷ cs) w b b' h (omega arith))

-- ---- the bytes

module _ (s : Style) (room room' : ℕ) where
  -- a call that two rooms accept
  step_alike : (w : Serializer) (c : Call) → is_accepted (step s room w c).answer ≡ true → is_accepted (step s room' w c).answer ≡ true → step s room w c ≡ step s room' w c
  step_alike w c h h' =
      let k = lands s room w c h in
      let p = k.piece in
      let there = puts_place s room' w k.sound k.puts in
      puts_place s room w k.sound k.puts ∙ placed room w p k.fit
      ∙ split (leb (end_of w p) (min room' limit))
      (λ e. sym (there ∙ placed room' w p (leb-true (end_of w p) (min room' limit) e)))
      (λ e. absurd (false≢true (sym (ap (λ (r : Written). is_accepted r.answer) (there ∙ not_placed room' w p (leb-false (end_of w p) (min room' limit) e))) ∙ h')))

  -- and calls
  bytes_alike : (cs : List Call) (w : Serializer) → fits s room w cs ≡ true → fits s room' w cs ≡ true → (writes s room w cs).text ≡ (writes s room' w cs).text
  unfolding fits writes
  bytes_alike [] w h h' = refl
  bytes_alike (c ∷ cs) w h h' =
      let e = step_alike w c (and_first (is_accepted (step s room w c).answer) _ h) (and_first (is_accepted (step s room' w c).answer) _ h') in
      let f = and_second (is_accepted (step s room w c).answer) _ h in
      let f' = and_second (is_accepted (step s room' w c).answer) _ h' in
      ap (λ (l : List ℕ). (step s room w c).bytes ++ l) (bytes_alike cs (step s room w c).serializer f (rw e f'))
      ∙ ap (λ (r : Written). r.bytes ++ (writes s room' r.serializer cs).text) e

-- a whole text has the same bytes in every buffer that holds it
pub text_alike : (s : Style) (cs : List Call) (b b' : List ℕ) → fits s (length b) fresh_serializer cs ≡ true → fits s (length b') fresh_serializer cs ≡ true
    → text_of (writing s b cs) ≡ text_of (writing s b' cs)
text_alike s cs b b' h h' = same_text s b cs ∙ bytes_alike s (length b) (length b') cs fresh_serializer h h' ∙ sym (same_text s b' cs)
