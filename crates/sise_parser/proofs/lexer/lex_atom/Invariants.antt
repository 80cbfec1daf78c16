-- `sise_parser::lex_atom` meets its contract. What the loop keeps: what the definition says from the atom's start is what it says from here, where a run of
-- atom characters ends.
use mathlib.Core.Path.{◌≡◌}
use mathlib.Core.List.{List}
use Prim.Native.Nat.{ℕ, ◌-◌, ◌≤◌}
use lib.ListN.{length, drop}
use Rattle.sise_parser.specs.Lexer.{plain}
use Rattle.sise_parser.proofs.Runs.{RunsTo}
use Rattle.sise_parser.proofs.lexer.lex_atom.Given as goal

pub record InAtom (text : List ℕ) (start at : ℕ) : Type 0 where
  pub after : start ≤ at
  pub same : plain (drop start text) start start ≡ plain (drop at text) at start
  pub ran : (p : ℕ) × RunsTo text p at

abbrev pub invariant-loop-at : goal.invariant-loop-at
invariant-loop-at l = InAtom l.text l.start l.at

abbrev pub decreases-loop-at : goal.decreases-loop-at
decreases-loop-at l = length l.text - l.at
