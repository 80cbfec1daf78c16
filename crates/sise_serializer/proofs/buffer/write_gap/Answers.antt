-- One byte if it has room, or none.
use mathlib.Core.Path.{sym}
use Rattle.sise_serializer.proofs.Bytes.{pasted_if_none}
use Rattle.sise_serializer.proofs.buffer.write_gap.Goals as goal

pub returns-then-not-joins : goal.returns-then-not-joins
returns-then-not-joins c = rw c.if-not-joins.true c.paste.ensures

pub returns-else-not-joins : goal.returns-else-not-joins
returns-else-not-joins c =
    let a = c.args in
    rw c.if-not-joins.false (sym (pasted_if_none a.buf.now a.at))
