-- `sise_util::is_escaped_chr` meets its contract: the definition, test by test.
use mathlib.Core.Bool.{true, false≢true}
use mathlib.Core.Path.{sym, ◌∙◌}
use mathlib.Core.Logic.{⊎_elim}
use native.Mathlib.Omega.{arith}
use borrow.Author.Tests.{ne_eqb}
use Rattle.sise_util.specs.Chars.{is_escaped_chr}
use Rattle.sise_util.proofs.Ranges.{valued}
use Rattle.sise_util.proofs.AtomLaws.{escaped_chr}
use Rattle.sise_util.proofs.util.is_escaped_chr.Goals as goal
use Rattle.sise_util.proofs.util.is_escaped_chr.Goals.{in-34, in_default}

pub returns-then-matches : goal.returns-then-matches
returns-then-matches c =
    elim c.match-matches.branch [
      | in-34 w ↦
          c.if-matches.true
          ∙ ⊎_elim
          (λ e. valued is_escaped_chr true 34 1 (unfold is_escaped_chr in tt) (omega arith) (omega arith))
          (λ e. valued is_escaped_chr true 92 1 (unfold is_escaped_chr in tt) (omega arith) (omega arith))
          w.in-34.is
      | in_default w ↦ absurd (false≢true (sym w.matches-is ∙ c.if-matches.true))
    ]

pub returns-else-matches : goal.returns-else-matches
returns-else-matches c =
    elim c.match-matches.branch [
      | in-34 w ↦ absurd (false≢true (sym c.if-matches.false ∙ w.matches-is))
      | in_default w ↦
          c.is_atom_string_chr.ensures
          ∙ sym (escaped_chr _ ∙ rw (ne_eqb c.args.chr 34 (grind arith), ne_eqb c.args.chr 92 (grind arith)))
    ]
