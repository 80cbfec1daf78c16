-- `sise_parser::lex_token` meets its contract. What the two loops keep: what the definition says from the place where the call began is what it says from
-- here, between tokens or in a comment.
use mathlib.Core.Path.{◌≡◌}
use mathlib.Core.Bool.{false}
use mathlib.Core.List.{List}
use Prim.Native.Nat.{ℕ, ◌-◌, ◌≤◌, ◌<◌}
use lib.ListN.{length, drop, get_or}
use Rattle.sise_util.specs.Classes.{class_of}
use Rattle.sise_parser.specs.Plain.{is_blank, atom_run}
use Rattle.sise_parser.specs.Lexer.{Lexed, between, comment}
use Rattle.sise_parser.proofs.lexer.lex_token.Given as goal

-- x is due at `at`, between tokens, where no blank stands and the run of atom characters ends at e
pub record Between (x : Lexed) (text : List ℕ) (at e : ℕ) : Type 0 where
  pub stop : at < length text → is_blank (class_of (get_or text at 0)) ≡ false
  pub run : e ≡ atom_run (drop at text) at
  pub same : x ≡ between (drop at text) at

-- x is due at `at`, in a comment that began at or before it
pub record InComment (x : Lexed) (text : List ℕ) (begun at : ℕ) : Type 0 where
  pub after : begun ≤ at
  pub same : x ≡ comment (drop at text) at

abbrev pub invariant-comment : goal.invariant-comment
invariant-comment l = InComment (between (drop l.from l.text) l.from) l.text l.initial.at l.at

abbrev pub invariant-token : goal.invariant-token
invariant-token l = Between (between (drop l.from l.text) l.from) l.text l.at l.end

abbrev pub decreases-comment : goal.decreases-comment
decreases-comment l = length l.text - l.at

abbrev pub decreases-token : goal.decreases-token
decreases-token l = length l.text - l.at
