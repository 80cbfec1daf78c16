-- What the loop keeps: the first place that is no blank, and the token, are the same from here as from where the call began.
use mathlib.Core.Path.{◌≡◌}
use mathlib.Core.List.{List}
use Prim.Native.Nat.{ℕ, ◌≤◌, max}
use lib.ListN.{length, drop}
use Rattle.sise_parser.specs.Lexer.{between}
use Rattle.sise_parser.specs.Plain.{skip_blanks}
use Rattle.sise_parser.proofs.lexer.skip_blanks.Given as goal

pub record Skipped (text : List ℕ) (from at : ℕ) : Type 0 where
  pub after : from ≤ at
  pub within : at ≤ max from (length text)
  pub same : skip_blanks (drop from text) from ≡ skip_blanks (drop at text) at
  pub token : between (drop from text) from ≡ between (drop at text) at

abbrev pub invariant-loop-at : goal.invariant-loop-at
invariant-loop-at l = Skipped l.text l.from l.at
