-- The letter, and the number behind it.
use Rattle.std.proofs.Common.{rules, ◌≡◌, refl, ◌∙◌, ap, List, [], ◌∷◌, ℕ}
use mathlib.Core.Path.{subst}
use Rattle.std.specs.Prelude.{Option, Some, MatchOption}
use Rattle.script.specs.Numbers.{Field, LetterLine}
use Rattle.script.proofs.Laws.{line_one}
use Rattle.script.proofs.Script.read_call.Goals as goal

behind : {s t u : List ℕ} {a b n m : ℕ} → s ≡ a ∷ t → a ≡ b → Field 10 t n u → n ≡ m → LetterLine b s (m ∷ []) u
behind {s} {t} {u} e f p g = (t, e ∙ ap (λ (x : ℕ). x ∷ t) f, line_one p g)

-- the letter is read from the front
front : {o : Option ℕ} {s t : List ℕ} {a : ℕ} → o ≡ Some a → MatchOption o ((s ≡ []) × (t ≡ [])) (λ b. s ≡ b ∷ t) → s ≡ a ∷ t
front {s = s} {t} e m = subst (λ (o : Option ℕ). MatchOption o ((s ≡ []) × (t ≡ [])) (λ b. s ≡ b ∷ t)) e m

pub returns-in-40-default : goal.returns-in-40-default
returns-in-40-default c = (_, c.meant.ensures, behind (front (search rules) c.next_byte.ensures) c.in-40-default.is-0 c.in_ok-number.ensures refl)

pub returns-in-41-eq0 : goal.returns-in-41-eq0
returns-in-41-eq0 c = behind (front (search rules) c.next_byte.ensures) c.in-41-eq0.is-0 c.in_ok-number.ensures c.in-41-eq0.is-1

pub returns-in-70-eq0 : goal.returns-in-70-eq0
returns-in-70-eq0 c = behind (front (search rules) c.next_byte.ensures) c.in-70-eq0.is-0 c.in_ok-number.ensures c.in-70-eq0.is-1

pub returns-in-70-eq1 : goal.returns-in-70-eq1
returns-in-70-eq1 c = behind (front (search rules) c.next_byte.ensures) c.in-70-eq1.is-0 c.in_ok-number.ensures c.in-70-eq1.is-1
