-- The layout is written, and the token right behind it.
use native.Mathlib.Omega.{arith}
use Rattle.sise_serializer.proofs.Bytes.{pasted_behind}
use Rattle.sise_serializer.proofs.serializer.put_planned.Goals as goal

pub write_layout-requires : goal.write_layout-requires
write_layout-requires g c = omega (arith, c.requires.offset, c.requires.room)

pub returns-clause-bytes : goal.returns-clause-bytes
returns-clause-bytes g c =
    let a = c.args in
    pasted_behind a.buf.now a.w.serializer.position _ (g.T.Token.bytes a.token) c.write_layout.ensures c.requires.offset c.put.ensures (omega (arith, c.requires.offset, c.requires.room))
