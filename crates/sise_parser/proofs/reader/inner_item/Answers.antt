-- `sise_parser::inner_item` meets its contract, token by token; a `)` closes the last list or another.
use mathlib.Core.Path.{◌≡◌, sym, ap, ◌∙◌}
use Prim.Native.Nat.{ℕ, ◌-◌}
use borrow.Author.Tests.{ne_eqb}
use Rattle.sise_parser.specs.Lexer.{found, closing}
use Rattle.sise_parser.specs.Reader.{next, reader, item, in_parsing}
use Rattle.sise_parser.specs.Meaning.{token_as}
use Rattle.sise_parser.specs.declared.lexer.Token.{Token}
use Rattle.sise_parser.specs.declared.reader.Phase.TheVariants.{Parsing, Finishing}
use Rattle.sise_parser.specs.declared.reader.ParsedItem.TheVariants.{ListEnd}
use Rattle.sise_parser.proofs.Calls.{handed_back}
use Rattle.sise_parser.proofs.reader.inner_item.Goals as goal
use Rattle.sise_parser.proofs.reader.inner_item.Goals.{in-Eof, in-LeftParen, in-RightParen, in-RightParen-2, in-Atom}

known : {t u : Token} (n s p : ℕ) → t ≡ u → in_parsing n (found (token_as u) s p) ≡ in_parsing n (found (token_as t) s p)
known n s p e = ap (λ (v : Token). in_parsing n (found (token_as v) s p)) (sym e)

last-closed : (n s p : ℕ) → n ≡ 1 → next (reader p Finishing 0) (item (ListEnd s)) ≡ in_parsing n (found closing s p)
unfolding in_parsing
last-closed n s p e = rw e

one_closed : (n s p : ℕ) → (n ≡ 1 → ⊥) → next (reader p Parsing (n - 1)) (item (ListEnd s)) ≡ in_parsing n (found closing s p)
unfolding in_parsing
one_closed n s p e = rw (ne_eqb n 1 e)

pub returns : goal.returns
unfolding in_parsing
returns c =
    c.answered.ensures
    ∙ elim c.match-found.branch [
      | in-Eof w ↦ handed_back _ w.phase-is ∙ known _ _ _ w.in-Eof.is
      | in-LeftParen w ↦ handed_back _ w.phase-is ∙ known _ _ _ w.in-LeftParen.is
      | in-RightParen w ↦ handed_back _ w.phase-is ∙ last-closed _ _ _ w.if-lists-eq1.true ∙ known _ _ _ w.in-RightParen.is
      | in-RightParen-2 w ↦ handed_back _ w.phase-is ∙ one_closed _ _ _ w.if-lists-eq1.false ∙ known _ _ _ w.in-RightParen.is
      | in-Atom w ↦ handed_back _ w.phase-is ∙ known _ _ _ w.in-Atom.is
    ]
