-- `sise_parser::lex_string` meets its contract. What the loop keeps: what the definition says from the place where the string began to be read is what it
-- says from here, for every atom that it may belong to.
use mathlib.Core.Path.{refl, sym, ◌∙◌}
use native.Mathlib.Omega.{arith}
use native.Mathlib.Nat.{le_refl}
use Rattle.sise_parser.proofs.Steps.{string_end, escape_end, string_quote, string_backslash, string_wrong, string_on, escape_wrong, escape_on}
use Rattle.sise_parser.proofs.lexer.lex_string.Goals as goal

pub loop-at-init : goal.loop-at-init
loop-at-init c = record { after = le_refl _; within = omega arith; same = λ s. refl }

pub returns-then-text-at : goal.returns-then-text-at
returns-then-text-at c =
    record {
      same = λ s. c.loop-at.invariant.same s ∙ string_end _ c.if-text-at.true s ∙ sym c.unfinished_string.ensures;
      after = tt;
    }

pub returns-in-1 : goal.returns-in-1
returns-in-1 c =
    record {
      same = λ s. c.loop-at.invariant.same s ∙ string_quote c.class_at.ensures s c.in-1.is;
      after = omega arith;
    }

pub returns-then-text-at-2 : goal.returns-then-text-at-2
returns-then-text-at-2 c =
    record {
      same = λ s.
          c.loop-at.invariant.same s
          ∙ string_backslash c.class_at.ensures s c.in-5.is
          ∙ escape_end _ c.if-text-at-2.true s
          ∙ sym c.unfinished_string-then-text-at-2.ensures;
      after = tt;
    }

pub returns-in-6 : goal.returns-in-6
returns-in-6 c =
    record {
      same = λ s.
          c.loop-at.invariant.same s
          ∙ string_backslash c.class_at.ensures s c.in-5.is
          ∙ escape_wrong c.class_at-in-5.ensures s c.in-6.is
          ∙ sym c.wrong_chr.ensures;
      after = tt;
    }

pub loop-at-preserved-in_default-class_at : goal.loop-at-preserved-in_default-class_at
loop-at-preserved-in_default-class_at c =
    record {
      after = omega arith;
      within = omega arith;
      same = λ s.
          c.loop-at.invariant.same s
          ∙ string_backslash c.class_at.ensures s c.in-5.is
          ∙ escape_on c.class_at-in-5.ensures s search;
    }

pub returns-in-2 : goal.returns-in-2
returns-in-2 c =
    record {
      same = λ s. c.loop-at.invariant.same s ∙ string_wrong c.class_at.ensures s c.in-2.is ∙ sym c.wrong_chr-in-2.ensures;
      after = tt;
    }

pub loop-at-preserved : goal.loop-at-preserved
loop-at-preserved c =
    record {
      after = omega arith;
      within = omega arith;
      same = λ s. c.loop-at.invariant.same s ∙ string_on c.class_at.ensures s search;
    }
