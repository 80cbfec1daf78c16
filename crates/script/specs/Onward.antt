-- How far a script was read.
use Rattle.std.specs.Prelude.{◌≡◌, ◌<◌, ℕ, List, ◌++◌, length}

-- something was read, and the rest is what follows it
pub record Onward (script rest : List ℕ) : Type 0 where
  pub front : List ℕ
  pub some : 0 < length front
  pub joined : script ≡ front ++ rest
