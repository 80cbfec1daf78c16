-- The test of the code says whether the line break and the indentations have room.
use Prim.Native.Nat.{◌+◌, ◌*◌}
use native.Mathlib.Omega.{arith}
use mathlib.Core.Path.{◌≡◌, sym, ◌∙◌}
use mathlib.Core.List.{◌++◌}
use lib.Dec.{leb}
use lib.ListN.{length}
use borrow.Author.Rules.{rules}
use borrow.Author.Tests.{leb-true, leb-false}
use Rattle.sise_serializer.specs.Bytes.{repeat}
use Rattle.sise_serializer.proofs.Bytes.{layout_length, pasted_if_lem, pasted_not}
use Rattle.sise_serializer.proofs.buffer.paste_line.Goals as goal

pub write_line-requires : goal.write_line-requires
write_line-requires c =
    let a = c.args in
    let e : c.is_some_and.result ≡ leb (a.at + length a.style.line_break.now + a.times * length a.style.indentation.now) (length a.buf.now) = search rules in
    let t = sym e ∙ c.if-is_some_and.true in
    omega (arith, leb-true, layout_length a.style.line_break.now a.times a.style.indentation.now)

pub returns-then-is_some_and : goal.returns-then-is_some_and
returns-then-is_some_and c =
    let a = c.args in
    let e : c.is_some_and.result ≡ leb (a.at + length a.style.line_break.now + a.times * length a.style.indentation.now) (length a.buf.now) = search rules in
    let t = sym e ∙ c.if-is_some_and.true in
    let size = layout_length a.style.line_break.now a.times a.style.indentation.now in
    c.write_line.ensures ∙ sym (pasted_if_lem a.buf.now a.at (a.style.line_break.now ++ repeat a.times a.style.indentation.now) (omega (arith, leb-true, size)))

pub returns-else-is_some_and : goal.returns-else-is_some_and
returns-else-is_some_and c =
    let a = c.args in
    let e : c.is_some_and.result ≡ leb (a.at + length a.style.line_break.now + a.times * length a.style.indentation.now) (length a.buf.now) = search rules in
    let t = sym e ∙ c.if-is_some_and.false in
    let size = layout_length a.style.line_break.now a.times a.style.indentation.now in
    sym (pasted_not a.buf.now a.at (a.style.line_break.now ++ repeat a.times a.style.indentation.now) (omega (arith, leb-false, size)))
