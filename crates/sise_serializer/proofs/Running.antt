-- What is left of a list of calls while it runs: each call's words are taken from the front, and its answer's word is set at its index, so what running
-- the rest leaves stays the same.
-- Assumes nothing.
use Prim.Native.Nat.{ℕ, suc, ◌+◌, ◌-◌, ◌≤◌, ◌<◌}
use native.Mathlib.Nat.{add-zero, zero-add}
use native.Mathlib.Omega.{arith}
use mathlib.Core.Path.{◌≡◌, refl, sym, ap, ◌∙◌, subst}
use mathlib.Core.Bool.{Bool, true, false, cond}
use mathlib.Core.List.{List, [], ◌∷◌, ◌++◌, map}
use lib.Dec.{leb}
use lib.ListN.{length, get_or, take, drop, set, length-set}
use lib.Seq.{take-nil, take-suc-set, drop-set-lt, append_snoc}
use Rattle.sise_util.proofs.Lists.{drop-next}
use Rattle.std.proofs.lemmas.List.{get_or-take, get_or-drop}
use Rattle.sise_serializer.specs.Bytes.{pasted}
use Rattle.sise_serializer.specs.Serializer.{Style, fresh_serializer, is_sound}
use Rattle.sise_serializer.specs.declared.calls.Ran.{Ran}
use Rattle.sise_serializer.specs.declared.serializer.Serializer.{Serializer}
use Rattle.sise_serializer.proofs.Bytes.{pasted_none}
use Rattle.sise_serializer.proofs.Kept.{fresh_sound, sound_kept}
use Rattle.sise_serializer.specs.Calls.{Call, step, Run, run}
use Rattle.sise_serializer.specs.Words.{call_of, call_at, decoded, calls_of, calls_from, answer_word, Runs, RunsFrom}

-- ---- words

pub decoded_short : (l atoms : List ℕ) → length l < 4 → decoded l atoms ≡ []
unfolding decoded
decoded_short [] atoms h = refl
decoded_short (a ∷ []) atoms h = refl
decoded_short (a ∷ b ∷ []) atoms h = refl
decoded_short (a ∷ b ∷ c ∷ []) atoms h = refl
decoded_short (a ∷ b ∷ c ∷ d ∷ l) atoms h = absurd (omega arith)

-- the words from a place on: the first of them, and the first four
next : (l : List ℕ) (i j : ℕ) → j ≡ i + 1 → i < length l → drop i l ≡ get_or l i 0 ∷ drop j l
next l i j e h = rw e (drop-next l i h)

module _ (words atoms : List ℕ) (at : ℕ) where
  four : at + 4 ≤ length words → drop at words ≡ get_or words at 0 ∷ get_or words (at + 1) 0 ∷ get_or words (at + 2) 0 ∷ get_or words (at + 3) 0 ∷ drop (at + 4) words
  four room =
      next words at (at + 1) (omega arith) (omega arith)
      ∙ ap (λ (l : List ℕ). get_or words at 0 ∷ l) (next words (at + 1) (at + 2) (omega arith) (omega arith)
      ∙ ap (λ (l : List ℕ). get_or words (at + 1) 0 ∷ l) (next words (at + 2) (at + 3) (omega arith) (omega arith)
      ∙ ap (λ (l : List ℕ). get_or words (at + 2) 0 ∷ l) (next words (at + 3) (at + 4) (omega arith) (omega arith))))

  -- four words there, by whether the first is a kind
  pub rest_as : at + 4 ≤ length words → {b : Bool} → leb (get_or words at 0) 4 ≡ b → decoded (drop at words) atoms ≡ cond b (call_at words atoms at ∷ decoded (drop (at + 4) words) atoms) []
  unfolding decoded
  rest_as room e =
      ap (λ (l : List ℕ). decoded l atoms) (four room)
      ∙ ap (λ (b : Bool). cond b (call_at words atoms at ∷ decoded (drop (at + 4) words) atoms) []) e

  -- the call there is that in front of the words from there on
  pub call_at_drop : call_at (drop at words) atoms 0 ≡ call_at words atoms at
  call_at_drop = rw (get_or-drop at words 0 0, get_or-drop at words 1 0, get_or-drop at words 2 0, get_or-drop at words 3 0, add-zero at) refl

-- the call in front is that of the first four words
pub call_at_take : (words atoms : List ℕ) → call_at (take 4 words) atoms 0 ≡ call_at words atoms 0
call_at_take words atoms = rw (get_or-take 4 words 0 0 (omega arith), get_or-take 4 words 1 0 (omega arith), get_or-take 4 words 2 0 (omega arith), get_or-take 4 words 3 0 (omega arith)) refl

-- four words in front
pub decoded_four : (words p q atoms : List ℕ) → (p ≡ take 4 words) × (q ≡ drop 4 words) × (length q + 4 ≡ length words)
    → decoded words atoms ≡ cond (leb (get_or p 0 0) 4) (call_of atoms (get_or p 0 0) (get_or p 1 0) (get_or p 2 0) (get_or p 3 0) ∷ decoded q atoms) []
decoded_four words p q atoms h =
    let kind : get_or words 0 0 ≡ get_or p 0 0 = rw h.0 (sym (get_or-take 4 words 0 0 (omega arith))) in
    let call : call_at words atoms 0 ≡ call_at p atoms 0 = rw h.0 (sym (call_at_take words atoms)) in
    rest_as words atoms 0 (omega (arith, h.2)) (ap (λ (n : ℕ). leb n 4) kind)
    ∙ ap (λ (c : Call). cond (leb (get_or p 0 0) 4) (c ∷ decoded (drop 4 words) atoms) []) call
    ∙ ap (λ (l : List ℕ). cond (leb (get_or p 0 0) 4) (call_at p atoms 0 ∷ decoded l atoms) []) (sym h.1)

-- ---- answers

pub pasted_cons : (l : List ℕ) (k x : ℕ) (xs : List ℕ) → k < length l → pasted l k (x ∷ xs) ≡ pasted (set l k x) (k + 1) xs
unfolding pasted
pasted_cons l k x xs h =
    let n : k + 1 + length xs ≡ k + suc (length xs) = omega arith in
    let one : k + 1 ≡ suc k = omega arith in
    sym (ap (λ (m : ℕ). take m (set l k x) ++ xs ++ drop (k + 1 + length xs) (set l k x)) one
    ∙ ap (λ (p : List ℕ). p ++ xs ++ drop (k + 1 + length xs) (set l k x)) (take-suc-set l k x h)
    ∙ ap (λ (q : List ℕ). take k l ++ (x ∷ []) ++ xs ++ q) (drop-set-lt (k + 1 + length xs) l k x (omega arith))
    ∙ ap (λ (p : List ℕ). p ++ drop (k + 1 + length xs) l) (append_snoc (take k l) x xs)
    ∙ ap (λ (m : ℕ). take k l ++ (x ∷ xs) ++ drop m l) n)

-- ---- running

-- what running the calls cs leaves, from the record w, the buffer b and the words a of which k are set
pub record Final : Type 0 where
  pub last : Serializer
  pub buffer : List ℕ
  pub answers : List ℕ
  pub calls : ℕ

unfoldable pub final : Style → List ℕ → Serializer → List ℕ → ℕ → List Call → Final
final s b w a k cs =
    let r = run s b w cs in
    record { last = r.last; buffer = r.buffer; answers = pasted a k (map answer_word r.answers); calls = k + length cs }

final_more : (s : Style) (b : List ℕ) (w : Serializer) (a : List ℕ) (k : ℕ) (c : Call) (cs : List Call) → k < length a
    → final s b w a k (c ∷ cs)
    ≡ final s (pasted b w.position (step s (length b) w c).bytes) (step s (length b) w c).serializer (set a k (answer_word (step s (length b) w c).answer)) (k + 1) cs
unfolding final run
final_more s b w a k c cs h =
    let d = step s (length b) w c in
    let r = run s (pasted b w.position d.bytes) d.serializer cs in
    let n : k + suc (length cs) ≡ k + 1 + length cs = omega arith in
    ap (λ (x : List ℕ). record { last = r.last; buffer = r.buffer; answers = x; calls = k + suc (length cs) }) (pasted_cons a k _ _ h)
    ∙ ap (λ (x : ℕ). record { last = r.last; buffer = r.buffer; answers = pasted (set a k (answer_word d.answer)) (k + 1) (map answer_word r.answers); calls = x }) n

final_none : (s : Style) (b : List ℕ) (w : Serializer) (a : List ℕ) (k : ℕ)
    → final s b w a k [] ≡ record { last = w; buffer = b; answers = a; calls = k }
unfolding final run
final_none s b w a k =
    ap (λ (x : List ℕ). record { last = w; buffer = b; answers = x; calls = k + 0 }) (pasted_none a k)
    ∙ ap (λ (x : ℕ). record { last = w; buffer = b; answers = a; calls = x }) (add-zero k)

-- where a list of calls from the record v is after k of them, with the words `rest` left: the rest leaves what the whole leaves
pub record Left (v : Serializer) (s : Style) (words atoms b₀ a₀ b a : List ℕ) (w : Serializer) (k : ℕ) (rest : List ℕ) : Type 0 where
  pub same : final s b w a k (take (length a₀ - k) (decoded rest atoms)) ≡ final s b₀ v a₀ 0 (calls_from v words atoms (length a₀))
  pub index : k ≤ length a₀
  pub answers_length : length a ≡ length a₀
  pub buffer_length : length b ≡ length b₀
  pub sound : is_sound w ≡ true

pub start : (s : Style) (words atoms b a : List ℕ) (w : Serializer) → is_sound w ≡ true → Left w s words atoms b a b a w 0 words
start s words atoms b a w h =
    let z : length a - 0 ≡ length a = omega arith in
    record {
      same = ap (λ (n : ℕ). final s b w a 0 (take n (decoded words atoms))) z ∙ ap (λ (t : Bool). final s b w a 0 (cond t (calls_of words atoms (length a)) [])) (sym h);
      index = omega arith;
      answers_length = refl;
      buffer_length = refl;
      sound = h;
    }

pub start_fresh : (s : Style) (words atoms b a : List ℕ) (w : Serializer) → w ≡ fresh_serializer → Left fresh_serializer s words atoms b a b a w 0 words
start_fresh s words atoms b a w e = subst (λ (v : Serializer). Left fresh_serializer s words atoms b a b a v 0 words) (sym e) (start s words atoms b a fresh_serializer fresh_sound)

-- from an unsound record nothing runs
pub none_runs : (s : Style) (words atoms b a : List ℕ) (w : Serializer) → is_sound w ≡ false → RunsFrom w s words atoms b a (record { serializer = w; calls = 0 }) b a
unfolding final
none_runs s words atoms b a w h =
    let e : record { last = w; buffer = b; answers = a; calls = 0 } ≡ final s b w a 0 (calls_from w words atoms (length a))
    = sym (final_none s b w a 0) ∙ ap (λ (t : Bool). final s b w a 0 (cond t (calls_of words atoms (length a)) [])) (sym h) in
    record {
      serializer = ap (λ (f : Final). f.last) e;
      calls = ap (λ (f : Final). f.calls) e ∙ zero-add _;
      buffer = ap (λ (f : Final). f.buffer) e;
      answers = ap (λ (f : Final). f.answers) e;
    }

-- what runs from a fresh record is all that the words mean
pub fresh_runs : {s : Style} {words atoms b a : List ℕ} {v : Serializer} {r : Ran} {bytes now : List ℕ} → v ≡ fresh_serializer → RunsFrom v s words atoms b a r bytes now → Runs s words atoms b a r bytes now
fresh_runs {s} {words} {atoms} {b} {a} {v} e d =
    let z : calls_from v words atoms (length a) ≡ calls_of words atoms (length a) = ap (λ (t : Bool). cond t (calls_of words atoms (length a)) []) (ap is_sound e ∙ fresh_sound) in
    let y : run s b v (calls_from v words atoms (length a)) ≡ run s b fresh_serializer (calls_of words atoms (length a)) = ap (run s b v) z ∙ ap (λ (x : Serializer). run s b x (calls_of words atoms (length a))) e in
    record {
      serializer = d.serializer ∙ ap (λ (x : Run). x.last) y;
      calls = d.calls ∙ ap length z;
      buffer = d.buffer ∙ ap (λ (x : Run). x.buffer) y;
      answers = d.answers ∙ ap (λ (x : Run). pasted a 0 (map answer_word x.answers)) y;
    }

module _ {v : Serializer} {s : Style} {words atoms b₀ a₀ b a : List ℕ} {w : Serializer} {k : ℕ} {rest : List ℕ} (l : Left v s words atoms b₀ a₀ b a w k rest) where
  -- nothing is left
  finished : take (length a₀ - k) (decoded rest atoms) ≡ [] → RunsFrom v s words atoms b₀ a₀ (record { serializer = w; calls = k }) b a
  unfolding final
  finished none =
      let e = sym (final_none s b w a k) ∙ sym (ap (final s b w a k) none) ∙ l.same in
      record {
        serializer = ap (λ (f : Final). f.last) e;
        calls = ap (λ (f : Final). f.calls) e ∙ zero-add _;
        buffer = ap (λ (f : Final). f.buffer) e;
        answers = ap (λ (f : Final). f.answers) e;
      }

  pub full : length a ≤ k → RunsFrom v s words atoms b₀ a₀ (record { serializer = w; calls = k }) b a
  full h =
      let e = l.answers_length in
      let z : length a₀ - k ≡ 0 = omega arith in
      finished (ap (λ (n : ℕ). take n (decoded rest atoms)) z)

  pub stopped : decoded rest atoms ≡ [] → RunsFrom v s words atoms b₀ a₀ (record { serializer = w; calls = k }) b a
  stopped h = finished (ap (take (length a₀ - k)) h ∙ take-nil (length a₀ - k))

  -- one call more
  pub on : {u : Serializer} {bx : List ℕ} {x : ℕ} (c : Call) (behind : List ℕ) → k < length a → decoded rest atoms ≡ c ∷ decoded behind atoms
      → u ≡ (step s (length b) w c).serializer → x ≡ answer_word (step s (length b) w c).answer
      → bx ≡ pasted b w.position (step s (length b) w c).bytes → length bx ≡ length b
      → Left v s words atoms b₀ a₀ bx (set a k x) u (k + 1) behind
  on {u} {bx} {x} c behind h has left told wrote keeps =
      let e = l.answers_length in
      let d = step s (length b) w c in
      let cs = take (length a₀ - (k + 1)) (decoded behind atoms) in
      let z : length a₀ - k ≡ suc (length a₀ - (k + 1)) = omega arith in
      let split : take (length a₀ - k) (decoded rest atoms) ≡ c ∷ cs = ap (take (length a₀ - k)) has ∙ ap (λ (n : ℕ). take n (c ∷ decoded behind atoms)) z in
      record {
        same =
            ap (λ (y : List ℕ). final s y u (set a k x) (k + 1) cs) wrote
            ∙ ap (λ (y : Serializer). final s (pasted b w.position d.bytes) y (set a k x) (k + 1) cs) left
            ∙ ap (λ (y : ℕ). final s (pasted b w.position d.bytes) d.serializer (set a k y) (k + 1) cs) told
            ∙ sym (final_more s b w a k c cs h)
            ∙ sym (ap (final s b w a k) split)
            ∙ l.same;
        index = omega arith;
        answers_length = length-set a k x ∙ e;
        buffer_length = keeps ∙ l.buffer_length;
        sound = ap is_sound left ∙ sound_kept s (length b) w c l.sound;
      }
