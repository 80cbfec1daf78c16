-- A space or nothing, and the token, stand at the position, and the record has them counted.
use native.Mathlib.Omega.{arith}
use mathlib.Core.Path.{ap, ◌∙◌}
use Prim.Native.Nat.{ℕ, ◌+◌}
use lib.ListN.{length}
use Rattle.sise_serializer.specs.Parts.{in_line, gap_bytes}
use Rattle.sise_serializer.proofs.Bytes.{pasted_length, pasted_behind, pasted_if_lem}
use Rattle.sise_serializer.proofs.Sound.{small}
use Rattle.sise_serializer.proofs.Tests.{gap_short, gap_counted}
use Rattle.sise_tree_writer.proofs.write.write_in_line.Goals as goal

pub overflow_add-line : goal.overflow_add-line
overflow_add-line c =
    let s = small _ c.args.w.sound in
    omega (arith, s.line, gap_counted c.args.w.serializer.list_beginning c.from-lead.ensures, gap_short c.args.w.serializer.list_beginning)

pub overflow_add-line-2 : goal.overflow_add-line-2
unfolding in_line
overflow_add-line-2 c =
    let s = small _ c.args.w.sound in
    omega (arith, s.line, c.requires.within, gap_counted c.args.w.serializer.list_beginning c.from-lead.ensures, gap_short c.args.w.serializer.list_beginning)

pub returns : goal.returns
unfolding in_line
returns c =
    let a = c.args in
    let gap = gap_bytes a.w.serializer.list_beginning in
    let d = gap_counted a.w.serializer.list_beginning c.from-lead.ensures in
    let m = c.write_gap.ensures ∙ pasted_if_lem a.buf.now a.w.serializer.position gap (omega (arith, c.requires.inside)) in
    let long = ap length m ∙ pasted_length a.buf.now a.w.serializer.position gap (omega (arith, c.requires.inside)) in
    record {
      serializer = rw (c.behind_in_line.ensures, d);
      buffer = pasted_behind a.buf.now a.w.serializer.position gap a.token.now m (ap (λ (n : ℕ). a.w.serializer.position + n) d) (c.paste.ensures ∙ pasted_if_lem _ _ _ (omega (arith, c.requires.inside, long, d))) (omega (arith, c.requires.inside));
    }
