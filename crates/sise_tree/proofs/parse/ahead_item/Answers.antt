-- What item_ahead answers is what the next call does, and an atom lies in the text.
use mathlib.Core.Path.{ap, ◌∙◌}
use native.Mathlib.Omega.{arith}
use Rattle.std.specs.Prelude.{Ok}
use Rattle.sise_tree.proofs.ReadSteps.{called, took}
use Rattle.sise_tree.proofs.parse.ahead_item.Goals as goal

pub returns-in_default : goal.returns-in_default
returns-in_default c = (_, _, called c.item_ahead-next.result c.item_ahead-next.ensures c.in_default.is)

pub kind_at-kind-requires : goal.kind_at-kind-requires
kind_at-kind-requires c =
    let t = took _ _ (called c.item_ahead-next.result c.item_ahead-next.ensures (c.in-Ok.is ∙ ap Ok c.in-Atom.is)) in
    omega (arith, t.leaves.0, t.within)
