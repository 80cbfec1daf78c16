-- Line break, indentations and token stand at the position, and the record has them counted.
use Prim.Native.Nat.{◌+◌, ◌*◌}
use lib.ListN.{length}
use native.Mathlib.Omega.{arith}
use mathlib.Core.Path.{◌≡◌, ap, ◌∙◌}
use Rattle.sise_serializer.specs.Serializer.{style_of, new_line_of, laid, inner_as}
use Rattle.sise_serializer.proofs.Bytes.{layout_length, pasted_length, pasted_if_lem, pasted_behind}
use Rattle.sise_tree_writer.proofs.write.write_on_new_line.Goals as goal

pub overflow_mul-indent : goal.overflow_mul-indent
unfolding inner_as laid
overflow_mul-indent c = let a = c.args in omega (arith, c.requires.within, layout_length a.style.line_break.now a.w.serializer.lists a.style.indentation.now)

pub overflow_add-at : goal.overflow_add-at
unfolding inner_as laid
overflow_add-at c = let a = c.args in omega (arith, c.requires.within, layout_length a.style.line_break.now a.w.serializer.lists a.style.indentation.now)

pub overflow_add-at-2 : goal.overflow_add-at-2
unfolding inner_as laid
overflow_add-at-2 c = let a = c.args in omega (arith, c.requires.within, layout_length a.style.line_break.now a.w.serializer.lists a.style.indentation.now)

pub overflow_add-at-3 : goal.overflow_add-at-3
unfolding inner_as laid
overflow_add-at-3 c = let a = c.args in omega (arith, c.requires.within, layout_length a.style.line_break.now a.w.serializer.lists a.style.indentation.now)

pub overflow_add-indent : goal.overflow_add-indent
unfolding inner_as laid
overflow_add-indent c = let a = c.args in omega (arith, c.requires.within, layout_length a.style.line_break.now a.w.serializer.lists a.style.indentation.now)

pub returns : goal.returns
unfolding inner_as laid
returns c =
    let a = c.args in
    let size = layout_length a.style.line_break.now a.w.serializer.lists a.style.indentation.now in
    let here : a.w.serializer.position + length a.style.line_break.now + a.w.serializer.lists * length a.style.indentation.now ≡ a.w.serializer.position + length (new_line_of (style_of a.style) a.w.serializer.lists) = omega (arith, size) in
    let layout = new_line_of (style_of a.style) a.w.serializer.lists in
    let m = c.paste_line.ensures ∙ pasted_if_lem a.buf.now a.w.serializer.position layout (omega (arith, c.requires.inside)) in
    let long = ap length m ∙ pasted_length a.buf.now a.w.serializer.position layout (omega (arith, c.requires.inside)) in
    record {
      serializer = rw (c.behind_new_line.ensures, here);
      buffer = pasted_behind a.buf.now a.w.serializer.position layout a.token.now m here (c.paste.ensures ∙ pasted_if_lem _ _ _ (omega (arith, c.requires.inside, long, size))) (omega (arith, c.requires.inside));
    }
