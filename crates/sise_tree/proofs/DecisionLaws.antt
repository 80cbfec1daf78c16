-- The decision answers `some n` exactly if the words hold `n`: what it reads is spelt by the words, and a table is read back.
-- Assumes nothing.
use Prim.Native.Nat.{ℕ, zero, suc, ◌+◌, ◌*◌, ◌<◌}
use native.Mathlib.Numerals.{one-add}
use native.Mathlib.Omega.{arith}
use mathlib.Core.Path.{◌≡◌, refl, sym, ◌∙◌}
use mathlib.Core.Bool.{Bool, true, false}
use mathlib.Core.Option.{Option, none, some, some-injective}
use mathlib.Core.List.{List, [], ◌∷◌, ◌++◌, append_assoc, append-nil}
use lib.Dec.{eqb}
use lib.ListN.{length, drop}
use borrow.Author.Tests.{eqb-true, eq-eqb, ne_eqb}
use Rattle.sise_util.proofs.Ranges.{split, both}
use Rattle.sise_tree.specs.Tree.{Node, atom, list, Nodes, empty, ◌then◌, size, sizes, children, table_at, tables, sits, lies, lies_all, second, Holds}
use Rattle.sise_tree.specs.Decision.{guard, bind, Read, ahead, row, only, decide}
use Rattle.sise_tree.proofs.TreeLaws.{anded, sits_kind, row_holds, holds_words, words_after_lem, holds_fits}

none_some : {A B : Type 0} {a : A} → ◌≡◌ {A = Option A} none (some a) → B
none_some h = let z : ◌≡◌ {A = ℕ} 0 1 = cc in absurd (omega arith)

-- an answer came of a guard, or of a bind: what that says, to go on with
guarded : {A C : Type 0} {t : Bool} {x : Option A} {a : A} → guard t x ≡ some a → (t ≡ true → x ≡ some a → C) → C
unfolding guard
guarded {t = true} h k = k refl h
guarded {t = false} h k = none_some h

bound : {A B C : Type 0} {x : Option A} {f : A → Option B} {b : B} → bind x f ≡ some b → ((a : A) → x ≡ some a → f a ≡ some b → C) → C
unfolding bind
bound {x = none} h k = none_some h
bound {x = some a} h k = k a refl h

-- what was read of the words: so many nodes, the first of which stands d nodes behind their parent, and whose atoms lie in the text
record Spelt (l : List ℕ) (d c : ℕ) (ws : List ℕ) (r : Read) : Type 0 where
  words : ws ≡ tables d r.nodes ++ r.rest
  count : children r.nodes ≡ c
  in_text : lies_all l r.nodes ≡ true

spelt_none : (l : List ℕ) (d : ℕ) (ws : List ℕ) → Spelt l d 0 ws (record { nodes = empty; rest = ws })
unfolding tables children lies_all
spelt_none l d ws = record { words = refl; count = refl; in_text = refl }

spelt_atom :
    {l : List ℕ} {d c : ℕ} (k a b : ℕ) {s : ℕ} {ws : List ℕ} {r : Read} → s ≡ 1 → sits l k a b ≡ true → Spelt l (d + 1) c ws r
    → Spelt l d (suc c) (k ∷ a ∷ b ∷ s ∷ ws) (ahead (atom k a b) r)
unfolding ahead size table_at tables children lies lies_all
spelt_atom k a b es t h = record { words = cc h.words; count = omega (arith, h.count); in_text = both _ _ t h.in_text }

spelt_list :
    {l : List ℕ} {d c a b k s : ℕ} {ws : List ℕ} {r q : Read} → k ≡ 0 → b ≡ d → s ≡ 1 + sizes r.nodes → Spelt l 1 a ws r → Spelt l (d + s) c r.rest q
    → Spelt l d (suc c) (k ∷ a ∷ b ∷ s ∷ ws) (ahead (list r.nodes) q)
unfolding ahead size table_at tables children lies lies_all
spelt_list {d} {r} {q} ek eb es h g =
    record {
      words = cc (h.words, h.count, g.words, append_assoc (tables 1 r.nodes) (tables (d + (1 + sizes r.nodes)) q.nodes) q.rest);
      count = omega (arith, g.count);
      in_text = both _ _ h.in_text g.in_text;
    }

row_sound : (f : ℕ) (l : List ℕ) (d c : ℕ) (ws : List ℕ) {r : Read} → row f l d c ws ≡ some r → Spelt l d c ws r
unfolding row
row_sound zero l d c ws h = none_some h
row_sound (suc f) l d zero ws h = rw (some-injective _ _ h) at (spelt_none l d ws)
row_sound (suc f) l d (suc c) [] h = none_some h
row_sound (suc f) l d (suc c) (k ∷ []) h = none_some h
row_sound (suc f) l d (suc c) (k ∷ a ∷ []) h = none_some h
row_sound (suc f) l d (suc c) (k ∷ a ∷ b ∷ []) h = none_some h
row_sound (suc f) l d (suc c) (k ∷ a ∷ b ∷ s ∷ ws) h =
    split (eqb k 0)
    (λ ek.
    guarded (rw (ek, row) at h) λ eb y.
    bound y λ r i z.
    guarded z λ es v.
    bound v λ q j o.
    rw (some-injective _ _ o) at
    (spelt_list (eqb-true k 0 ek) (eqb-true b d eb) (eqb-true s _ es) (row_sound f l 1 a ws i) (row_sound f l (d + s) c r.rest j)))
    (λ ek.
    guarded (rw (ek, row) at h) λ es x.
    guarded x λ t y.
    bound y λ r i o.
    rw (some-injective _ _ o) at (spelt_atom k a b (eqb-true s 1 es) t (row_sound f l (d + 1) c ws i)))

row_complete :
    (f : ℕ) (l : List ℕ) (d : ℕ) (ns : Nodes) (rest : List ℕ) → lies_all l ns ≡ true → sizes ns < f
    → row f l d (children ns) (tables d ns ++ rest) ≡ some (record { nodes = ns; rest = rest })
unfolding row ahead guard bind size sizes children table_at tables lies lies_all
row_complete zero l d ns rest t u = absurd (omega arith)
row_complete (suc f) l d empty rest t u = refl
row_complete (suc f) l d (atom k p n then ns) rest t u =
    anded {a = sits l k p n} t λ here more. rw (one-add (children ns), ne_eqb k 0 (sits_kind l k p n here), row, here, row_complete f l (d + 1) ns rest more (omega arith))
row_complete (suc f) l d (list cs then ns) rest t u =
    anded {a = lies_all l cs} t λ inside more.
    let next = d + (1 + sizes cs) in
    rw (
      one-add (children ns),
      eq-eqb d d refl,
      append_assoc (tables 1 cs) (tables next ns) rest,
      row_complete f l 1 cs (tables next ns ++ rest) inside (omega arith),
      eq-eqb (1 + sizes cs) (1 + sizes cs) refl,
      row_complete f l next ns rest more (omega arith),
    )

pub decide_sound : {l : List ℕ} {words : List ℕ} {n : Node} → decide l words ≡ some n → Holds l words n
unfolding decide only
decide_sound {l} {words} {n} h =
    bound h λ r i o.
    let s = row_sound (suc (length words)) l (second words 0) 1 words i in
    let (m, one, holds) = row_holds (second words 0) r.nodes r.rest s.count s.words s.in_text in
    rw (some-injective m n (rw one at o)) at holds

pub decide_complete : {l : List ℕ} {words : List ℕ} {n : Node} → Holds l words n → decide l words ≡ some n
unfolding decide only bind size sizes children table_at tables lies lies_all
decide_complete {l} {words} {n} h =
    let d = second words 0 in
    let rest = drop (4 * size n) words in
    let e : tables d (n then empty) ++ rest ≡ words = rw (append-nil (table_at d n)) (sym (holds_words h)) in
    let u : sizes (n then empty) < suc (length words) = omega (arith, holds_fits h) in
    rw (rw e at (row_complete (suc (length words)) l d (n then empty) rest (both _ _ h.in_text refl) u))

-- whatever its distance to a parent is, and the words after its table
pub decide_after : (l : List ℕ) (d : ℕ) (n : Node) (rest : List ℕ) → lies l n ≡ true → decide l (table_at d n ++ rest) ≡ some n
decide_after l d n rest t = decide_complete (words_after_lem l d n rest t)

-- so the words hold one tree at most
pub holds_once : {l : List ℕ} {words : List ℕ} {n m : Node} → Holds l words n → Holds l words m → n ≡ m
holds_once h g = some-injective _ _ (sym (decide_complete h) ∙ decide_complete g)
