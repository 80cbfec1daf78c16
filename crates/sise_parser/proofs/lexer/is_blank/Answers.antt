-- `sise_parser::is_blank` meets its contract: the four bytes are those of the three classes that are blanks.
use mathlib.Core.Path.{◌≡◌, refl, sym, ap, ◌∙◌}
use mathlib.Core.Bool.{true, false}
use mathlib.Core.Logic.{⊎_elim}
use Prim.Native.Nat.{ℕ}
use native.Mathlib.Omega.{arith}
use borrow.Author.Tests.{ne_eqb, eqb-false}
use Rattle.sise_util.specs.Chars.{one_of}
use Rattle.sise_util.specs.Classes.{Class, space, quote, tab, atom_chr, line_end, backslash, other, semicolon, left, right, printable, class_of, class_number}
use Rattle.sise_util.proofs.ClassLaws.{space_number, tab_number, line_end_number}
use Rattle.sise_util.proofs.Ranges.{valued}
use Rattle.sise_parser.specs.Plain.{is_blank}
use Rattle.sise_parser.proofs.lexer.is_blank.Goals as goal

other_byte : (b : ℕ) → (b ≡ 32 → ⊥) → (b ≡ 10 → ⊥) → (b ≡ 9 → ⊥) → (b ≡ 13 → ⊥) → false ≡ is_blank (class_of b)
unfolding class_number one_of
other_byte b s n t r = go (class_of b) refl
  where
    go : (c : Class) → class_of b ≡ c → false ≡ is_blank c
    go space e = absurd (eqb-false (class_number (class_of b)) 0 (sym (space_number b) ∙ ne_eqb b 32 s) (ap class_number e))
    go tab e = absurd (eqb-false (class_number (class_of b)) 2 (sym (tab_number b) ∙ ne_eqb b 9 t) (ap class_number e))
    go line_end e = absurd (eqb-false (class_number (class_of b)) 4 (sym (line_end_number b) ∙ rw (ne_eqb b 10 n, ne_eqb b 13 r)) (ap class_number e))
    go quote e = refl
    go atom_chr e = refl
    go backslash e = refl
    go other e = refl
    go semicolon e = refl
    go left e = refl
    go right e = refl
    go printable e = refl

pub returns-in-32 : goal.returns-in-32
unfolding class_of
returns-in-32 c = ⊎_elim (λ e. rw e) (λ e. rw e) c.in-32.is

pub returns-in-32-2 : goal.returns-in-32-2
returns-in-32-2 c = valued (λ (b : ℕ). is_blank (class_of b)) true 9 2 (unfold class_of in tt) (omega arith) (omega arith)

pub returns-in_default : goal.returns-in_default
returns-in_default c = other_byte c.args.byte (grind arith) (grind arith) (grind arith) (grind arith)

pub returns-in_default-2 : goal.returns-in_default-2
returns-in_default-2 c = other_byte c.args.byte (grind arith) (grind arith) (grind arith) (grind arith)

pub returns-then-byte-gt32 : goal.returns-then-byte-gt32
returns-then-byte-gt32 c = other_byte c.args.byte (grind arith) (grind arith) (grind arith) (grind arith)
