-- The number lies after the space.
use Rattle.std.proofs.Common.{◌≡◌, ◌∷◌, List, ℕ, Result, Ok, Err}
use Rattle.std.specs.Prelude.{IfOk, MatchResult}
use Rattle.script.specs.Numbers.{Number, Field}
use Rattle.script.specs.declared.Malformed.{Malformed}
use Rattle.script.proofs.Script.read_field.Goals as goal

behind : (end : ℕ) {s t : List ℕ} (u : List ℕ) (r : Result ℕ Malformed) → s ≡ 32 ∷ t → MatchResult r (λ n. Number end t n u) (λ _. u ≡ t) → IfOk r (λ n. Field end s n u)
behind end u (Ok n) e p = (_, e, p)
behind end u (Err x) e p = tt

pub returns : goal.returns
returns c = behind _ _ c.read_number.result c.in_ok-read_byte.ensures c.read_number.ensures
