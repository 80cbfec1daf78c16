-- The item's plan is carried out; or it is refused.
use native.Mathlib.Omega.{arith}
use mathlib.Core.Path.{sym}
use Rattle.sise_serializer.specs.Serializer.{style_of}
use Rattle.sise_serializer.proofs.Plans.{carried_out, refused_plan}
use Rattle.sise_serializer.proofs.serializer.write_item.Goals as goal

pub returns-in_err-planned : goal.returns-in_err-planned
returns-in_err-planned g c =
    let a = c.args in
    rw (← c.is_list.ensures) (refused_plan (style_of a.style) a.w.serializer (g.T.Token.bytes a.token) a.buf.now _ _ (c.in_err-planned.ensures (g.T.Token.bytes a.token) (sym c.len.ensures)) c.from_residual.ensures.1)

pub put_planned-requires-clause-offset : goal.put_planned-requires-clause-offset
put_planned-requires-clause-offset g c = (c.in_ok-planned.ensures (g.T.Token.bytes c.args.token) (sym c.len.ensures)).offset

pub put_planned-requires-clause-room : goal.put_planned-requires-clause-room
put_planned-requires-clause-room g c = let f = c.in_ok-planned.ensures (g.T.Token.bytes c.args.token) (sym c.len.ensures) in omega (arith, f.in_room)

pub returns : goal.returns
returns g c =
    let a = c.args in
    let token = g.T.Token.bytes a.token in
    rw (← c.is_list.ensures, c.put_planned.ensures.placed) (carried_out (style_of a.style) a.w.serializer token a.buf.now (c.in_ok-planned.ensures token (sym c.len.ensures)) c.put_planned.ensures.bytes)
