-- One byte is stored. Else, before each turn the buffer, of the same length, has the first i bytes of src pasted at `at`.
use native.Mathlib.Numerals.{add-one}
use native.Mathlib.Omega.{arith}
use mathlib.Core.Path.{◌≡◌, refl, ◌∙◌}
use lib.ListN.{length, length-set}
use lib.Seq.{paste-zero, paste-suc}
use Rattle.sise_serializer.proofs.Bytes.{pasted_paste, pasted_single}
use Rattle.sise_serializer.proofs.buffer.copy.Goals as goal

pub returns-then-src-eq1 : goal.returns-then-src-eq1
returns-then-src-eq1 c = let a = c.args in pasted_single a.buf.now a.at a.src.now (omega (arith, c.requires, c.if-src-eq1.true)) c.if-src-eq1.true

pub loop-i-init : goal.loop-i-init
loop-i-init c = let a = c.args in (paste-zero a.buf.now a.at a.src.now, refl)

pub loop-i-preserved : goal.loop-i-preserved
loop-i-preserved c =
    let l = c.loop-i in
    let a = c.args in
    (rw (l.invariant.0, add-one, ← paste-suc a.buf.now a.at a.src.now l.i 0 (omega (arith, l.invariant.1)) (omega arith)), simp length-set l.invariant.1)

pub returns : goal.returns
returns c =
    let l = c.loop-i in
    let a = c.args in
    let all : l.i ≡ length a.src.now = omega arith in
    l.invariant.0 ∙ rw all (pasted_paste a.buf.now a.at a.src.now)
