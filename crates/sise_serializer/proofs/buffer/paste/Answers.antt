-- The test of the code says whether the bytes have room.
use Prim.Native.Nat.{◌+◌}
use native.Mathlib.Omega.{arith}
use mathlib.Core.Path.{◌≡◌, sym, ◌∙◌}
use mathlib.Core.Bool.{true, false}
use lib.Dec.{leb}
use lib.ListN.{length}
use borrow.Author.Rules.{rules}
use borrow.Author.Tests.{leb-true, leb-false}
use Rattle.sise_serializer.proofs.Bytes.{pasted_if_lem, pasted_not}
use Rattle.sise_serializer.proofs.buffer.paste.Goals as goal

pub returns-then-is_some_and : goal.returns-then-is_some_and
returns-then-is_some_and c =
    let a = c.args in
    let e : c.is_some_and.result ≡ leb (a.at + length a.src.now) (length a.buf.now) = search rules in
    let t : leb (a.at + length a.src.now) (length a.buf.now) ≡ true = sym e ∙ c.if-is_some_and.true in
    c.copy.ensures ∙ sym (pasted_if_lem a.buf.now a.at a.src.now (omega (arith, leb-true)))

pub returns-else-is_some_and : goal.returns-else-is_some_and
returns-else-is_some_and c =
    let a = c.args in
    let e : c.is_some_and.result ≡ leb (a.at + length a.src.now) (length a.buf.now) = search rules in
    let t : leb (a.at + length a.src.now) (length a.buf.now) ≡ false = sym e ∙ c.if-is_some_and.false in
    sym (pasted_not a.buf.now a.at a.src.now (omega (arith, leb-false)))
