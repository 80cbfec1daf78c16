-- On valid UTF-8 no character is refused as ill formed, and every position lies on a border between characters.
-- Assumes nothing.
use mathlib.Core.Path.{◌≡◌, refl, sym, ap, ◌∙◌, subst}
use mathlib.Core.Bool.{false, true≢false}
use mathlib.Core.Logic.{⊎_elim}
use mathlib.Core.List.{List, ◌∷◌}
use Prim.Native.Nat.{ℕ, suc, ◌+◌, ◌<◌}
use native.Mathlib.Omega.{arith}
use lib.Dec.{ltb, lit<}
use lib.ListN.{length, drop}
use lib.Seq.{drop-drop}
use borrow.Author.Tests.{ltb-true, ltb-false}
use Rattle.sise_util.specs.Classes.{class_of}
use Rattle.sise_util.specs.Utf8.{Utf8Octets}
use Rattle.sise_util.specs.Utf8.{well}
use Rattle.sise_util.proofs.Ranges.{split}
use Rattle.sise_util.proofs.ClassLaws.{no_class}
use Rattle.sise_util.proofs.Utf8Laws.{size_in, ascii, ValidStep, valid_step}
use Rattle.sise_parser.specs.Lexer.{Lexed, found, bad, wrong, between}
use Rattle.sise_parser.proofs.Induction.{is_other, From, next_from, InAtom, Cases, in_between}

-- the text is valid from q on
abbrev pub Border : List ℕ → ℕ → Type 0
Border text q = Utf8Octets (drop q text)

abbrev pub Bordered : List ℕ → Lexed → Type 0
Bordered text (found t s q) = Border text q
Bordered text (bad e q) = (e.number < 8) × Border text q

-- a byte that is not `other` is below 0x7F
small : (b : ℕ) → is_other (class_of b) ≡ false → b < 127
small b h = split (ltb b 127) (λ e. ltb-true b 127 e) (λ e. absurd (true≢false (sym (ap is_other (no_class b (ltb-false b 127 e))) ∙ h)))

nonempty : (b : ℕ) (l : List ℕ) → Utf8Octets (b ∷ l) → ValidStep (b ∷ l)
nonempty b l v = ⊎_elim (λ e. absurd (none_left (ap length e))) (λ s. s) (valid_step v)
  where
    none_left : suc (length l) ≡ 0 → ⊥
    none_left e = omega arith

-- after a byte below 0x80 the rest is valid
ascii_next : (b : ℕ) (l : List ℕ) → b < 128 → Utf8Octets (b ∷ l) → Utf8Octets l
ascii_next b l h v =
    let s = nonempty b l v in
    subst (λ (k : ℕ). Utf8Octets (drop k (b ∷ l))) (one (sym s.well ∙ ascii b l h)) s.left
  where
    one : {c k : ℕ} → well c k ≡ well b 1 → k ≡ 1
    one e = ap size_in e

wrong_border : (n b : ℕ) (l : List ℕ) (p : ℕ) (text : List ℕ) → n < 8 → From text p (b ∷ l) → Utf8Octets (b ∷ l) → Bordered text (wrong n (b ∷ l) p)
unfolding wrong
wrong_border n b l p text h e v =
    let s = nonempty b l v in
    rw (s.well, wrong) (h, subst Utf8Octets (ap (drop s.size) (sym e) ∙ drop-drop s.size p text) s.left)

abbrev R : List ℕ → ℕ → Lexed → Type 0
R l p x = (text : List ℕ) → From text p l → Utf8Octets l → Bordered text x

abbrev A : InAtom → List ℕ → ℕ → ℕ → Lexed → Type 0
A t l p s x = R l p x

module _ (b : ℕ) (l : List ℕ) (p : ℕ) (a : is_other (class_of b) ≡ false) where
  below : b < 128
  below = let k : b < 127 = small b a in omega arith

  on : (x : Lexed) → R l (p + 1) x → R (b ∷ l) p x
  on x h text e v = h text (next_from text p e) (ascii_next b l below v)

  after_one : (text : List ℕ) → From text p (b ∷ l) → Utf8Octets (b ∷ l) → Border text (p + 1)
  after_one text e v = subst Utf8Octets (sym (next_from text p e)) (ascii_next b l below v)

cases : Cases R A
cases =
    record {
      passed = λ b l p x a. on b l p a x;
      atom_begun = λ t b l p x a i. on b l p a x;
      at_end = λ p text e v. subst Utf8Octets (sym e) v;
      opened = λ b l p c. after_one b l p (ap is_other c);
      closed = λ b l p c. after_one b l p (ap is_other c);
      refused = λ n b l p h k text e v. wrong_border n b l p text (omega arith) e v;
      passed_in_atom = λ t u b l p s x a i. on b l p a x;
      stopped = λ l p s text e v. subst Utf8Octets (sym e) v;
      cut = λ t p s text e v. (lit< tt, subst Utf8Octets (sym e) v);
      refused_in_atom = λ t b l p s text e v. wrong_border 2 b l p text (lit< tt) e v;
    }

-- the token at or after a border of a valid text
pub token_border : (text : List ℕ) (p : ℕ) → Border text p → Bordered text (between (drop p text) p)
token_border text p v = in_between R A cases (drop p text) p text refl v
