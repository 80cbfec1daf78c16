-- A token lies in the text, at or after the place from which it was looked for, and is as long as the position after it says.
-- Assumes nothing.
use mathlib.Core.Path.{◌≡◌, refl}
use mathlib.Core.List.{List, ◌∷◌}
use Prim.Native.Nat.{ℕ, suc, ◌+◌, ◌-◌, ◌≤◌, ◌<◌}
use native.Mathlib.Omega.{arith}
use lib.ListN.{length, drop, length-drop}
use Rattle.sise_util.specs.Utf8.{character}
use Rattle.sise_util.specs.declared.utf8.Character.{Character}
use Rattle.sise_util.specs.declared.utf8.IllFormed.{IllFormed}
use Rattle.std.specs.Prelude.{Result, Ok, Err}
use Rattle.sise_util.proofs.Utf8Laws.{size_fits, broken_subpart}
use Rattle.sise_parser.specs.Lexer.{Token, eof, opening, closing, atom, Lexed, found, bad, wrong, between}
use Rattle.sise_parser.proofs.Induction.{InAtom, Cases, in_between}

-- a token from s to q
abbrev pub Spans : Token → ℕ → ℕ → Type 0
Spans eof s q = s ≡ q
Spans opening s q = s + 1 ≡ q
Spans closing s q = s + 1 ≡ q
Spans (atom k) s q = (1 ≤ k) × (s + k ≡ q)

-- from p on, in a text of n bytes
abbrev pub Placed : ℕ → ℕ → Lexed → Type 0
Placed p n (found t s q) = (p ≤ s) × (q ≤ n) × Spans t s q
Placed p n (bad e q) = (p ≤ q) × (q ≤ n)

weaken : (p r n : ℕ) (x : Lexed) → p ≤ r → Placed r n x → Placed p n x
weaken p r n (found t s q) h k = (omega arith, k.1, k.2)
weaken p r n (bad e q) h k = (omega arith, k.1)

wrong_placed : (m b : ℕ) (l : List ℕ) (p n : ℕ) → p + suc (length l) ≡ n → Placed p n (wrong m (b ∷ l) p)
unfolding wrong
wrong_placed m b l p n e = go (character (b ∷ l)) refl
  where
    fits : (k : ℕ) → (1 ≤ k) × (k ≤ suc (length l)) → (p ≤ p + k) × (p + k ≤ n)
    fits k h = omega arith

    go : (c : Result Character IllFormed) → character (b ∷ l) ≡ c → Placed p n (wrong m (b ∷ l) p)
    go (Ok c) d = rw (d, wrong) (fits c.len (size_fits (b ∷ l) d))
    go (Err i) d = rw (d, wrong) (let s = broken_subpart b l d in fits i.len (s.some, s.inside))

abbrev R : List ℕ → ℕ → Lexed → Type 0
R l p x = (n : ℕ) → p + length l ≡ n → Placed p n x

abbrev A : InAtom → List ℕ → ℕ → ℕ → Lexed → Type 0
A t l p s x = (n : ℕ) → p + length l ≡ n → s < p → Placed s n x

cases : Cases R A
cases =
    record {
      passed = λ b l p x a h n e. weaken p (p + 1) n x (omega arith) (h n (omega arith));
      atom_begun = λ t b l p x a i h n e. h n (omega arith) (omega arith);
      at_end = λ p n e. (omega arith, omega arith, refl);
      opened = λ b l p a n e. (omega arith, omega arith, refl);
      closed = λ b l p a n e. (omega arith, omega arith, refl);
      refused = λ m b l p h i n e. wrong_placed m b l p n e;
      passed_in_atom = λ t u b l p s x a i h n e k. h n (omega arith) (omega arith);
      stopped = λ l p s n e k. (omega arith, omega arith, (omega arith, omega arith));
      cut = λ t p s n e k. (omega arith, omega arith);
      refused_in_atom = λ t b l p s n e k. weaken s p n (wrong 2 (b ∷ l) p) (omega arith) (wrong_placed 2 b l p n e);
    }

-- the token at or after a position of the text
pub token_placed : (text : List ℕ) (p : ℕ) → p ≤ length text → Placed p (length text) (between (drop p text) p)
token_placed text p h = in_between R A cases (drop p text) p (length text) (whole (length-drop p text))
  where
    whole : length (drop p text) ≡ length text - p → p + length (drop p text) ≡ length text
    whole e = omega arith
