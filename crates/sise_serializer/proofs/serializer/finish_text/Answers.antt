-- The plan of the end is carried out; or it is refused.
use native.Mathlib.Omega.{arith}
use mathlib.Core.List.{[]}
use Rattle.sise_serializer.specs.Serializer.{style_of}
use Rattle.sise_serializer.proofs.Plans.{carried_out, refused_plan}
use Rattle.sise_serializer.proofs.serializer.finish_text.Goals as goal

pub returns-in_err-planned : goal.returns-in_err-planned
returns-in_err-planned c = let a = c.args in refused_plan (style_of a.style) a.w.serializer [] a.buf.now _ _ c.in_err-planned.ensures c.from_residual.ensures.1

pub put_planned-requires-clause-offset : goal.put_planned-requires-clause-offset
put_planned-requires-clause-offset c = c.in_ok-planned.ensures.offset

pub put_planned-requires-clause-room : goal.put_planned-requires-clause-room
put_planned-requires-clause-room c = let f = c.in_ok-planned.ensures in omega (arith, f.in_room)

pub returns : goal.returns
returns c = let a = c.args in rw c.put_planned.ensures.placed (carried_out (style_of a.style) a.w.serializer [] a.buf.now c.in_ok-planned.ensures c.put_planned.ensures.bytes)
