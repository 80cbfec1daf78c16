-- The test of zero decides, as in the definition.
use borrow.Author.Tests.{eq-eqb, ne_eqb}
use Rattle.sise_serializer.specs.Serializer.{phase_after}
use Rattle.sise_serializer.proofs.serializer.phase_after.Goals as goal

pub returns-then-lists-eq0 : goal.returns-then-lists-eq0
unfolding phase_after
returns-then-lists-eq0 c = simp (eq-eqb _ _ c.if-lists-eq0.true)

pub returns-else-lists-eq0 : goal.returns-else-lists-eq0
unfolding phase_after
returns-else-lists-eq0 c = simp (ne_eqb _ _ c.if-lists-eq0.false)
