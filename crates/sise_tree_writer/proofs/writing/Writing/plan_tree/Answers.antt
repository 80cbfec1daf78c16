-- Each test of the code is the next test of the definition, whatever the buffer; after all of them the tree is measured.
use mathlib.Core.Path.{refl, sym, ap, ◌∙◌}
use mathlib.Core.Option.{some-injective}
use Rattle.std.proofs.lemmas.Result.{err_from_is_err_and}
use Rattle.sise_serializer.specs.Serializer.{style_of}
use Rattle.sise_tree_writer.specs.SerializeTree.{tree_calls}
use Rattle.sise_tree_writer.specs.declared.serialize.WriteTreeError.TheVariants.{TextTooLong, UnsoundRecord, WritingFinished}
use Rattle.sise_tree.specs.Decision.{is_some}
use Rattle.sise_tree.proofs.HeldLaws.{tree_held}
use Rattle.sise_tree_writer.proofs.Measuring.{refused_measures, unheld_measures, tree_long, tree_unsound, tree_over, tree_in, node_checked, found}
use Rattle.sise_tree_writer.proofs.writing.Writing.plan_tree.Goals as goal

pub returns-then-self-gt-LONGEST : goal.returns-then-self-gt-LONGEST
returns-then-self-gt-LONGEST c = λ b long. let a = c.args in rw (tree_long (style_of a.self.style) b a.serializer a.self.tree.text.now a.self.tree.table.now (tree_calls a.self.tree.text.now a.self.break_line_at) c.if-self-gt-LONGEST.true) (refused_measures _ _ TextTooLong refl)

pub returns-then-not-is_sound : goal.returns-then-not-is_sound
returns-then-not-is_sound c = λ b long. let a = c.args in rw (tree_unsound (style_of a.self.style) b a.serializer a.self.tree.text.now a.self.tree.table.now (tree_calls a.self.tree.text.now a.self.break_line_at) c.if-self-gt-LONGEST.false (sym c.is_sound.ensures ∙ c.if-not-is_sound.true)) (refused_measures _ _ UnsoundRecord refl)

pub returns-in_err-holds_tree : goal.returns-in_err-holds_tree
returns-in_err-holds_tree c = λ b long.
    let a = c.args in
    let p = err_from_is_err_and c.from_residual.result c.from_residual.ensures.1 in
    rw (p.1, p.2)
    (unheld_measures (style_of a.self.style) b a.serializer a.self.tree.text.now a.self.tree.table.now (tree_calls a.self.tree.text.now a.self.break_line_at)
    c.if-self-gt-LONGEST.false (sym c.is_sound.ensures ∙ c.if-not-is_sound.false) _ (sym c.in_err-holds_tree.was ∙ c.holds_tree.ensures))

pub returns-then-is_over : goal.returns-then-is_over
returns-then-is_over c = λ b long. let a = c.args in let (n, d, k) = tree_held a.self.tree.text.now _ c.holds_tree.ensures c.in_ok-holds_tree.was in rw (tree_over (style_of a.self.style) b a.serializer a.self.tree.text.now a.self.tree.table.now (tree_calls a.self.tree.text.now a.self.break_line_at) c.if-self-gt-LONGEST.false (sym c.is_sound.ensures ∙ c.if-not-is_sound.false) d k (sym c.is_over.ensures ∙ c.if-is_over.true)) (refused_measures _ _ WritingFinished refl)

pub measure_nodes-requires : goal.measure_nodes-requires
unfolding is_some
measure_nodes-requires c = let a = c.args in let (n, d, k) = tree_held a.self.tree.text.now _ c.holds_tree.ensures c.in_ok-holds_tree.was in record { sound = sym c.is_sound.ensures ∙ c.if-not-is_sound.false; checked = record { holds = ap is_some d; atoms = λ m e. rw (some-injective _ _ (sym d ∙ e)) at k } }

pub returns : goal.returns
unfolding is_some
returns c = λ b long. let a = c.args in let (n, d, k) = tree_held a.self.tree.text.now _ c.holds_tree.ensures c.in_ok-holds_tree.was in rw (tree_in (style_of a.self.style) b a.serializer a.self.tree.text.now a.self.tree.table.now (tree_calls a.self.tree.text.now a.self.break_line_at) c.if-self-gt-LONGEST.false (sym c.is_sound.ensures ∙ c.if-not-is_sound.false)) (node_checked _ _ _ _ _ _ (record { holds = ap is_some d; atoms = λ m e. rw (some-injective _ _ (sym d ∙ e)) at k }) (sym c.is_over.ensures ∙ c.if-is_over.false) (λ n d. found b long (c.measure_nodes.ensures n d)))
