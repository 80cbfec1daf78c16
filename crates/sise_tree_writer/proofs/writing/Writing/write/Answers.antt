-- Record and answer are those that were planned. An answer says that all calls fit, and they are written; a refusal leaves the buffer.
use mathlib.Core.Path.{refl, sym, ◌∙◌}
use Rattle.std.proofs.lemmas.Result.{err_from_is_err_and}
use Rattle.sise_tree_writer.proofs.Measuring.{no_answer, tree_kept}
use Rattle.sise_tree_writer.proofs.writing.Writing.write.Goals as goal

pub returns-in_err-planned : goal.returns-in_err-planned
returns-in_err-planned c =
    let m = c.in_err-planned.ensures c.args.buf.now refl in
    let p = err_from_is_err_and c.from_residual.result c.from_residual.ensures.1 in
    rw (p.1, p.2) (record { serializer = m.serializer; answer = m.answer; buffer = sym (tree_kept _ _ _ _ _ _ (λ o e. no_answer (m.answer ∙ e))) })
