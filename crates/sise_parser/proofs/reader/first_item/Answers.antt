-- `sise_parser::first_item` meets its contract, token by token.
use mathlib.Core.Path.{◌≡◌, sym, ap, ◌∙◌}
use Prim.Native.Nat.{ℕ}
use Rattle.sise_parser.specs.Lexer.{found}
use Rattle.sise_parser.specs.Reader.{in_beginning}
use Rattle.sise_parser.specs.Meaning.{token_as}
use Rattle.sise_parser.specs.declared.lexer.Token.{Token}
use Rattle.sise_parser.proofs.Calls.{handed_back}
use Rattle.sise_parser.proofs.reader.first_item.Goals as goal
use Rattle.sise_parser.proofs.reader.first_item.Goals.{in-Eof, in-LeftParen, in-RightParen, in-Atom}

known : {t u : Token} (n s p : ℕ) → t ≡ u → in_beginning n (found (token_as u) s p) ≡ in_beginning n (found (token_as t) s p)
known n s p e = ap (λ (v : Token). in_beginning n (found (token_as v) s p)) (sym e)

pub returns : goal.returns
unfolding in_beginning
returns c =
    c.answered.ensures
    ∙ elim c.match-found.branch [
      | in-Eof w ↦ handed_back _ w.phase-is ∙ known _ _ _ w.in-Eof.is
      | in-LeftParen w ↦ handed_back _ w.phase-is ∙ known _ _ _ w.in-LeftParen.is
      | in-RightParen w ↦ handed_back _ w.phase-is ∙ known _ _ _ w.in-RightParen.is
      | in-Atom w ↦ handed_back _ w.phase-is ∙ known _ _ _ w.in-Atom.is
    ]
