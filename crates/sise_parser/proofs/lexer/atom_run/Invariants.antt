-- What the loop keeps: the run of atom characters, and the atom, are the same from here as from the start, where an atom begins if the run is not empty.
use mathlib.Core.Path.{◌≡◌}
use mathlib.Core.List.{List}
use Prim.Native.Nat.{ℕ, ◌≤◌, ◌<◌, max}
use lib.ListN.{length, drop}
use Rattle.sise_parser.specs.Lexer.{between, plain}
use Rattle.sise_parser.specs.Plain.{atom_run}
use Rattle.sise_parser.proofs.lexer.atom_run.Given as goal

pub record InRun (text : List ℕ) (start at : ℕ) : Type 0 where
  pub after : start ≤ at
  pub within : at ≤ max start (length text)
  pub same : atom_run (drop start text) start ≡ atom_run (drop at text) at
  pub token : start < at → between (drop start text) start ≡ plain (drop at text) at start

abbrev pub invariant-loop-at : goal.invariant-loop-at
invariant-loop-at l = InRun l.text l.start l.at
