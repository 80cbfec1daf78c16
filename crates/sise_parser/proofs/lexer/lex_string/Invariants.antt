-- `sise_parser::lex_string` meets its contract. What the loop keeps: what the definition says from the place where the string began to be read is what it
-- says from here, for every atom that it may belong to.
use mathlib.Core.Path.{◌≡◌}
use mathlib.Core.List.{List}
use Prim.Native.Nat.{ℕ, ◌-◌, ◌≤◌}
use lib.ListN.{length, drop}
use Rattle.sise_parser.specs.Lexer.{string}
use Rattle.sise_parser.proofs.lexer.lex_string.Given as goal

pub record InString (text : List ℕ) (from at : ℕ) : Type 0 where
  pub after : from ≤ at
  pub within : at ≤ length text
  pub same : (s : ℕ) → string (drop from text) from s ≡ string (drop at text) at s

abbrev pub invariant-loop-at : goal.invariant-loop-at
invariant-loop-at l = InString l.text l.from l.at

abbrev pub decreases-loop-at : goal.decreases-loop-at
decreases-loop-at l = length l.text - l.at
