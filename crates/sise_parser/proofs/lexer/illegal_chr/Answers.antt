-- `sise_parser::illegal_chr` meets its contract, case by case.
use mathlib.Core.Path.{◌≡◌, sym, ap}
use Prim.Native.Nat.{ℕ}
use Rattle.sise_parser.specs.Refusals.{refusal}
use Rattle.sise_parser.specs.Meaning.{context_number}
use Rattle.sise_parser.specs.declared.lexer.Context.{Context}
use Rattle.sise_parser.proofs.lexer.illegal_chr.Goals as goal

-- the number of a context that is known
known : {p q : Context} (pos chr : ℕ) → p ≡ q → refusal (context_number q) pos chr ≡ refusal (context_number p) pos chr
known pos chr e = ap (λ (x : Context). refusal (context_number x) pos chr) (sym e)

pub returns-in-Outside : goal.returns-in-Outside
returns-in-Outside c = known _ _ c.in-Outside.is

pub returns-in-InString : goal.returns-in-InString
returns-in-InString c = known _ _ c.in-InString.is

pub returns-in-InComment : goal.returns-in-InComment
returns-in-InComment c = known _ _ c.in-InComment.is
