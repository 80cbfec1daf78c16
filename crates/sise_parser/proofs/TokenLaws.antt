-- What a token says of the text: an atom that the lexer finds is one by the grammar, the end is the text's, a parenthesis stands at its place, and a
-- refusal is what `Refuses` says of its number.
-- Assumes nothing.
use mathlib.Core.Path.{◌≡◌, refl, sym, ap, ◌∙◌, subst}
use mathlib.Core.List.{List, [], ◌∷◌, ◌++◌, append-nil, append_assoc}
use Prim.Native.Nat.{ℕ, ◌+◌, ◌-◌, ◌≤◌, ◌<◌}
use native.Mathlib.Nat.{add-zero}
use native.Mathlib.Omega.{arith}
use lib.Dec.{eqb, lit≤}
use lib.ListN.{length, take, drop, get_or, length-drop}
use lib.Seq.{drop-drop, take-add, get_or-drop}
use borrow.Author.Tests.{eqb-true}
use Rattle.sise_util.specs.Classes.{Class, left, right, class_of, class_number}
use Rattle.sise_util.specs.Atom.{Atom, outside, is_atom}
use Rattle.sise_util.specs.Utf8.{Subpart, character}
use Rattle.sise_util.specs.declared.utf8.Character.{Character}
use Rattle.sise_util.specs.declared.utf8.IllFormed.{IllFormed}
use Rattle.std.specs.Prelude.{Result, Ok, Err}
use Rattle.sise_util.proofs.AtomLaws.{atom_test}
use Rattle.sise_util.proofs.ClassLaws.{left_number, right_number}
use Rattle.sise_util.proofs.Utf8Laws.{ill_formed_lem, broken_subpart}
use Rattle.sise_parser.specs.Refusals.{refusal}
use Rattle.sise_parser.specs.Lexer.{Lexed, found, bad, eof, opening, closing, atom, wrong, between}
use Rattle.sise_parser.specs.Refused.{Refuses, wrong_chr, unfinished, ill_formed}
use Rattle.sise_parser.proofs.Induction.{From, next_from, InAtom, outside_string, passes, Cases, in_between}

-- what a token from s to q, or a refusal, says of the text
abbrev pub Says : List ℕ → Lexed → Type 0
Says text (bad e q) = Refuses text e q
Says text (found eof s q) = (s ≡ length text) × (q ≡ length text)
Says text (found opening s q) = (get_or text s 0 ≡ 40) × (q ≡ s + 1)
Says text (found closing s q) = (get_or text s 0 ≡ 41) × (q ≡ s + 1)
Says text (found (atom k) s q) = Atom (take k (drop s text))

-- the bytes of the text from p on are l, and the text ends behind them
record Ends (text : List ℕ) (p : ℕ) (l : List ℕ) : Type 0 where
  rest : From text p l
  whole : p + length l ≡ length text

module _ {text : List ℕ} {p b : ℕ} {l : List ℕ} (i : Ends text p (b ∷ l)) where
  next : Ends text (p + 1) l
  next = record { rest = next_from text p i.rest; whole = omega (arith, i.whole) }

  first : get_or text p 0 ≡ b
  first = ap (λ (n : ℕ). get_or text n 0) (sym (add-zero p)) ∙ sym (get_or-drop p text 0 0) ∙ ap (λ (m : List ℕ). get_or m 0 0) i.rest

  wrong_says : (n : ℕ) → 1 ≤ n → n ≤ 3 → Says text (wrong n (b ∷ l) p)
  unfolding wrong
  wrong_says n h k = go (character (b ∷ l)) refl
    where
      go : (c : Result Character IllFormed) → character (b ∷ l) ≡ c → Says text (wrong n (b ∷ l) p)
      go (Ok c) e = rw (e, wrong) (wrong_chr h k (ap character i.rest ∙ e))
      go (Err x) e =
          rw (e, wrong) (ill_formed {p = p} ((ill_formed_lem (drop p text)).0 (x.len, ap character i.rest ∙ e)) (subst (λ (s : List ℕ). Subpart s x.len) (sym i.rest) (broken_subpart b l e)))

  -- the bytes from s on, with one more
  one_more : (s : ℕ) → s < p → take (p + 1 - s) (drop s text) ≡ take (p - s) (drop s text) ++ b ∷ []
  one_more s h =
      let n : p + 1 - s ≡ p - s + 1 = omega arith in
      let m : s + (p - s) ≡ p = omega arith in
      ap (λ (k : ℕ). take k (drop s text)) n
      ∙ take-add (p - s) 1 (drop s text)
      ∙ ap (λ (x : List ℕ). take (p - s) (drop s text) ++ take 1 x) (drop-drop (p - s) s text ∙ ap (λ (k : ℕ). drop k text) m ∙ i.rest)

abbrev R : List ℕ → ℕ → Lexed → Type 0
R l p x = (text : List ℕ) → Ends text p l → Says text x

-- what the test says of the bytes from s to p with any bytes m behind them, it says of m in the atom's state
abbrev A : InAtom → List ℕ → ℕ → ℕ → Lexed → Type 0
A t l p s x = (text : List ℕ) → Ends text p l → s < p → ((m : List ℕ) → is_atom (take (p - s) (drop s text) ++ m) ≡ passes t m) → Says text x

begun : (t : InAtom) (b : ℕ) (l : List ℕ) (p : ℕ) (x : Lexed) → ((m : List ℕ) → outside (b ∷ m) ≡ passes t m) → A t l (p + 1) p x → R (b ∷ l) p x
unfolding is_atom
begun t b l p x same h text i = h text (next i) (omega arith) (λ m. ap (λ (a : List ℕ). is_atom (a ++ m)) one ∙ same m)
  where
    one : take (p + 1 - p) (drop p text) ≡ b ∷ []
    one = let n : p + 1 - p ≡ 1 = omega arith in ap (λ (k : ℕ). take k (drop p text)) n ∙ ap (take 1) i.rest

longer : (t u : InAtom) (b : ℕ) (l : List ℕ) (p s : ℕ) (x : Lexed) → ((m : List ℕ) → passes t (b ∷ m) ≡ passes u m) → A u l (p + 1) s x → A t (b ∷ l) p s x
longer t u b l p s x same h text i k test =
    h text (next i) (omega arith) (λ m. ap (λ (a : List ℕ). is_atom (a ++ m)) (one_more i s k) ∙ ap is_atom (append_assoc (take (p - s) (drop s text)) (b ∷ []) m) ∙ test (b ∷ m) ∙ same m)

whole_atom : (l : List ℕ) (p s : ℕ) → A outside_string l p s (found (atom (p - s)) s p)
unfolding outside
whole_atom l p s text i k test = (atom_test _).0 (ap is_atom (sym (append-nil _)) ∙ test [])

-- a byte by its class
left_byte : (b : ℕ) → class_of b ≡ left → b ≡ 40
unfolding class_number
left_byte b e = eqb-true b 40 (left_number b ∙ ap (λ (c : Class). eqb (class_number c) 8) e)

right_byte : (b : ℕ) → class_of b ≡ right → b ≡ 41
unfolding class_number
right_byte b e = eqb-true b 41 (right_number b ∙ ap (λ (c : Class). eqb (class_number c) 9) e)

cases : Cases R A
cases =
    record {
      passed = λ b l p x a h text i. h text (next i);
      atom_begun = λ t b l p x a same h. begun t b l p x same h;
      at_end = λ p text i. (omega (arith, i.whole), omega (arith, i.whole));
      opened = λ b l p c text i. (first i ∙ left_byte b c, refl);
      closed = λ b l p c text i. (first i ∙ right_byte b c, refl);
      refused = λ n b l p h k text i. wrong_says i n h k;
      passed_in_atom = λ t u b l p s x a same h. longer t u b l p s x same h;
      stopped = whole_atom;
      cut = λ t p s text i k test. let z : length text ≡ p = omega (arith, i.whole) in subst (λ (n : ℕ). Refuses text (refusal 4 n 0) n) z unfinished;
      refused_in_atom = λ t b l p s text i k test. wrong_says i 2 (lit≤ tt) (lit≤ tt);
    }

-- the token at or after a position of the text
pub token_says : (text : List ℕ) (p : ℕ) → p ≤ length text → Says text (between (drop p text) p)
token_says text p h = in_between R A cases (drop p text) p text (record { rest = refl; whole = omega (arith, length-drop p text) })

-- an atom that the lexer finds is one by the grammar
pub found_atom : (text : List ℕ) (p : ℕ) → p ≤ length text → {k s q : ℕ} → between (drop p text) p ≡ found (atom k) s q → Atom (take k (drop s text))
found_atom text p h e = subst (Says text) e (token_says text p h)
