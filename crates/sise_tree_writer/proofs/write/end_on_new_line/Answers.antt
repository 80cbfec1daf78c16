-- Line break, indentations and `)` stand at the position, and the record has them counted.
use Prim.Native.Nat.{◌+◌, ◌-◌, ◌*◌, min}
use native.Mathlib.Omega.{arith}
use mathlib.Core.Path.{◌≡◌, ◌∙◌}
use lib.ListN.{length}
use mathlib.Core.List.{[], ◌∷◌}
use Rattle.sise_serializer.specs.Serializer.{style_of, new_line_of, close_as}
use Rattle.sise_serializer.proofs.Bytes.{layout_length, pasted_if_lem, pasted_one, pasted_behind}
use Rattle.sise_tree_writer.proofs.write.end_on_new_line.Goals as goal

pub overflow_mul-indent : goal.overflow_mul-indent
unfolding close_as
overflow_mul-indent c = let a = c.args in omega (arith, c.requires.room.within, layout_length a.style.line_break.now (a.w.serializer.lists - 1) a.style.indentation.now)

pub overflow_add-at : goal.overflow_add-at
unfolding close_as
overflow_add-at c = let a = c.args in omega (arith, c.requires.room.within, layout_length a.style.line_break.now (a.w.serializer.lists - 1) a.style.indentation.now)

pub overflow_add-at-2 : goal.overflow_add-at-2
unfolding close_as
overflow_add-at-2 c = let a = c.args in omega (arith, c.requires.room.within, layout_length a.style.line_break.now (a.w.serializer.lists - 1) a.style.indentation.now)

pub overflow_add-at-3 : goal.overflow_add-at-3
unfolding close_as
overflow_add-at-3 c = let a = c.args in omega (arith, c.requires.room.within, layout_length a.style.line_break.now (a.w.serializer.lists - 1) a.style.indentation.now)

pub overflow_add-indent : goal.overflow_add-indent
unfolding close_as
overflow_add-indent c = let a = c.args in omega (arith, c.requires.room.within, layout_length a.style.line_break.now (a.w.serializer.lists - 1) a.style.indentation.now)

pub bounds-buf-at : goal.bounds-buf-at
unfolding close_as
bounds-buf-at c = let a = c.args in omega (arith, c.requires.room.inside, layout_length a.style.line_break.now (a.w.serializer.lists - 1) a.style.indentation.now)

pub returns : goal.returns
unfolding close_as
returns c =
    let a = c.args in
    let n = a.w.serializer.lists - 1 in
    let size = layout_length a.style.line_break.now n a.style.indentation.now in
    let all : n ≡ min a.w.serializer.broken n = omega (arith, c.requires.broken) in
    let here : a.w.serializer.position + length a.style.line_break.now + n * length a.style.indentation.now ≡ a.w.serializer.position + length (new_line_of (style_of a.style) n) = omega (arith, size) in
    record {
      serializer = rw (c.behind_end_on_new_line.ensures, here, ← all);
      buffer = pasted_behind a.buf.now a.w.serializer.position (new_line_of (style_of a.style) n) (41 ∷ []) (c.paste_line.ensures ∙ pasted_if_lem _ _ _ (omega (arith, c.requires.room.inside))) (omega (arith, size)) (pasted_one _ _ 41 (omega (arith, size, c.requires.room.inside))) (omega (arith, c.requires.room.inside));
    }
