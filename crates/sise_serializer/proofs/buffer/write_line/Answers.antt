-- The indentations right behind the line break: two pastings in a row are one.
use native.Mathlib.Omega.{arith}
use mathlib.Core.Path.{◌∙◌}
use lib.ListN.{length-append}
use Rattle.sise_serializer.specs.Bytes.{repeat}
use Rattle.sise_serializer.proofs.Bytes.{layout_length, pasted_more}
use Rattle.sise_serializer.proofs.buffer.write_line.Goals as goal

pub copy-requires : goal.copy-requires
copy-requires c =
    let a = c.args in
    omega (arith, layout_length a.style.line_break.now a.times a.style.indentation.now)

pub copies-requires : goal.copies-requires
copies-requires c =
    let a = c.args in
    omega (arith, layout_length a.style.line_break.now a.times a.style.indentation.now)

pub returns : goal.returns
returns c =
    let a = c.args in
    let text = a.style.line_break.now in
    let steps = repeat a.times a.style.indentation.now in
    let size = length-append text steps in
    c.copies.ensures ∙ rw c.copy.ensures (pasted_more a.buf.now a.at text (omega (arith, size)) steps)
