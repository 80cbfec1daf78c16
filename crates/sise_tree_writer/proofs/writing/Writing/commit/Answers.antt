-- What one call refuses, the commit refuses. Else the size is compared: if it is another one, that is 23; if it is the same, it is written.
use mathlib.Core.Path.{refl, ◌∙◌}
use Rattle.std.proofs.lemmas.Result.{err_from_is_err_and}
use Rattle.sise_serializer.specs.Serializer.{style_of}
use Rattle.sise_tree_writer.specs.Sizes.{measured_as}
use Rattle.sise_tree_writer.specs.Writing.{calls_of}
use Rattle.sise_tree_writer.proofs.Measuring.{no_answer, tree_kept}
use Rattle.sise_tree_writer.proofs.Sizes.{measured_grown, does_refused, does_changed, does_same}
use Rattle.sise_tree_writer.proofs.writing.Writing.commit.Goals as goal

pub returns-in_err-planned : goal.returns-in_err-planned
returns-in_err-planned c =
    let a = c.args in
    let m = c.in_err-planned.ensures a.buf.now refl in
    let p = err_from_is_err_and c.from_residual.result c.from_residual.ensures.1 in
    rw (p.1, p.2) (does_refused a.buf.now a.serializer _ (measured_as a.measured) m (λ o e. no_answer e) (tree_kept _ _ _ _ _ _ (λ o e. no_answer (m.answer ∙ e))))

pub is_size-requires : goal.is_size-requires
is_size-requires c =
    let a = c.args in
    measured_grown (style_of a.self.style) a.buf.now a.serializer a.self.tree.text.now a.self.tree.table.now (calls_of a.self.tree.text.now a.self.break_line_at a.self.finish) (c.in_ok-planned.ensures a.buf.now refl)

pub returns-then-not-is_size : goal.returns-then-not-is_size
returns-then-not-is_size c =
    let a = c.args in
    does_changed a.buf.now a.serializer _ (measured_as a.measured) (c.in_ok-planned.ensures a.buf.now refl) refl c.is_size.ensures c.if-not-is_size.true

pub returns : goal.returns
returns c =
    let a = c.args in
    does_same a.buf.now a.serializer _ (measured_as a.measured) (c.in_ok-planned.ensures a.buf.now refl) refl c.is_size.ensures c.if-not-is_size.false c.put.ensures
