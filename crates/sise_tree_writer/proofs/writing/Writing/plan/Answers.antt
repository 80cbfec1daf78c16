-- The tree is measured, and then the finish behind it, if there is one.
use mathlib.Core.Path.{refl}
use Rattle.std.proofs.lemmas.Result.{err_from_is_err_and}
use Rattle.sise_serializer.specs.Serializer.{style_of}
use Rattle.sise_tree_writer.proofs.Measuring.{no_answer}
use Rattle.sise_tree_writer.proofs.Finishing.{tree_sound, refused_none, finish_off, text_fits}
use Rattle.sise_tree_writer.proofs.Planned.{planned_as}
use Rattle.sise_tree_writer.proofs.writing.Writing.plan.Goals as goal

pub returns-in_err-nodes : goal.returns-in_err-nodes
returns-in_err-nodes c =
    let a = c.args in
    let p = err_from_is_err_and c.from_residual.result c.from_residual.ensures.1 in
    rw (p.1, p.2) (refused_none (style_of a.self.style) a.room a.serializer a.self.tree.text.now a.self.tree.table.now a.self.break_line_at c.in_err-nodes.ensures a.self.finish (λ o e. no_answer e))

pub invariant_of-sound : goal.invariant_of-sound
invariant_of-sound c =
    let a = c.args in
    record { sound = tree_sound (style_of a.self.style) a.room a.serializer a.self.tree.text.now a.self.tree.table.now a.self.break_line_at c.in_ok-nodes.ensures refl }

pub returns-in_err-last : goal.returns-in_err-last
returns-in_err-last c =
    let a = c.args in
    let p = err_from_is_err_and c.from_residual-in_err-last.result c.from_residual-in_err-last.ensures.1 in
    rw (p.1, p.2, c.in-Some.is) (finish_off (style_of a.self.style) a.room a.serializer a.self.tree.text.now a.self.tree.table.now a.self.break_line_at c.in_ok-nodes.ensures refl _ (planned_as _ _ _ _ _ _ c.plan_finish.ensures c.in_err-last.ensures))

pub returns : goal.returns
returns c =
    let a = c.args in
    rw c.in-Some.is (text_fits (style_of a.self.style) a.room a.serializer a.self.tree.text.now a.self.tree.table.now a.self.break_line_at c.in_ok-nodes.ensures refl _ (planned_as _ _ _ _ _ _ c.plan_finish.ensures c.in_ok-last.ensures))

pub returns-in_default : goal.returns-in_default
returns-in_default c = rw c.in_default.is c.in_ok-nodes.ensures
