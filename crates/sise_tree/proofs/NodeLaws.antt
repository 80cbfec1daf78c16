-- What is known of a node's words where they were read, and where the table does not have them all.
-- Assumes nothing.
use Rattle.std.specs.Prelude.{Option, Some, None, Result, Ok, Err, ok_or}
use Rattle.std.specs.Simd.{first_chunks}
use Rattle.std.proofs.lemmas.List.{get_or-take, get_or-drop}
use Prim.Native.Nat.{ℕ, zero, suc, ◌+◌, ◌*◌, ◌/◌, ◌≤◌, ◌<◌}
use native.Mathlib.Omega.{arith}
use mathlib.Core.Path.{◌≡◌, refl, sym, ap, ◌∙◌}
use mathlib.Core.List.{List, []}
use lib.ListN.{length, get_or, take, drop}
use lib.Seq.{drop-drop}
use lib.Dec.{ltb}
use borrow.Author.Tests.{lt-ltb, ltb-true, ltb-false}
use Rattle.sise_util.proofs.Ranges.{split}
use Rattle.sise_tree.specs.NodeWords.{words_at, node_words, Words}
use Rattle.sise_tree.specs.declared.tree.NodeWords.{NodeWords}

-- of the chunks of four words, number i is the words from 4 * i on
chunk_at : (k i : ℕ) (xs : List ℕ) → i < k → get_or (first_chunks 4 k xs) i [] ≡ take 4 (drop (4 * i) xs)
chunk_at zero i xs h = absurd (omega arith)
chunk_at (suc k) zero xs h = refl
chunk_at (suc k) (suc i) xs h =
    chunk_at k i (drop 4 xs) (omega arith) ∙ ap (take 4) (drop-drop (4 * i) 4 xs ∙ ap (λ (j : ℕ). drop j xs) {x = 4 + 4 * i} {y = 4 * suc i} (omega arith))

module _ (words : List ℕ) (i : ℕ) where
  word_at : (j : ℕ) → j < 4 → i < length words / 4 → get_or (get_or (first_chunks 4 (length words / 4) words) i []) j 0 ≡ get_or words (4 * i + j) 0
  word_at j small within = rw (chunk_at (length words / 4) i words within) (get_or-take 4 (drop (4 * i) words) j 0 small ∙ get_or-drop (4 * i) words j 0)

  pub chunk_words :
      {chunks : List (List ℕ)} → chunks ≡ first_chunks 4 (length words / 4) words → i < length words / 4
      → record { kind = get_or (get_or chunks i []) 0 0; first = get_or (get_or chunks i []) 1 0; second = get_or (get_or chunks i []) 2 0; span = get_or (get_or chunks i []) 3 0 } ≡ words_at words i
  chunk_words e within = let z : 4 * i + 0 ≡ 4 * i = omega arith in
      rw (e, word_at 0 (omega arith) within, word_at 1 (omega arith) within, word_at 2 (omega arith) within, word_at 3 (omega arith) within, z) refl

  pub its_words : {r : Option NodeWords} {n : NodeWords} → r ≡ node_words words i → r ≡ Some n → Words words i n
  its_words {r} {n} e z = split (ltb i (length words / 4))
      (λ t.
      let y : Some n ≡ Some (words_at words i) = rw t at (sym z ∙ e) in
      (ltb-true i _ t, cc))
      (λ f. let y : Some n ≡ None = rw f at (sym z ∙ e) in absurd cc)

  pub no_words : {r : Option NodeWords} → r ≡ node_words words i → (r ≡ None) → length words / 4 ≤ i
  no_words {r} e z = split (ltb i (length words / 4))
      (λ t.
      let y : None ≡ Some (words_at words i) = rw t at (sym z ∙ e) in
      absurd cc)
      (λ f. ltb-false i _ f)

  -- and where the table has them, they are read
  pub node_read : i < length words / 4 → node_words words i ≡ Some (words_at words i)
  node_read h = rw (lt-ltb i (length words / 4) h)

-- what an Option was, where ok_or made a Result of it
pub some_of : {A E : Type 0} (r : Option A) (e : E) {v : A} {x : Result A E} → x ≡ ok_or r e → x ≡ Ok v → r ≡ Some v
some_of (Some u) e {v} z y = let w : Ok u ≡ Ok v = sym z ∙ y in ap Some cc
some_of None e {v} z y = let w : Err e ≡ Ok v = sym z ∙ y in absurd cc

pub none_of : {A E : Type 0} (r : Option A) (e : E) {d : E} {x : Result A E} → x ≡ ok_or r e → x ≡ Err d → (r ≡ None) × (d ≡ e)
none_of (Some u) e {d} z y = let w : Ok u ≡ Err d = sym z ∙ y in absurd cc
none_of None e {d} z y = let w : Err e ≡ Err d = sym z ∙ y in (refl, cc)

-- what an Option is that is not Some
pub none_left : {A : Type 0} {r : Option A} → ((v : A) → r ≡ Some v → ⊥) → r ≡ None
none_left {r = Some v} h = absurd (h v refl)
none_left {r = None} h = refl
