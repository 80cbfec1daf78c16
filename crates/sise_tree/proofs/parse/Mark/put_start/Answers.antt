-- The words are put behind those of the open lists.
use native.Mathlib.Omega.{arith}
use Rattle.sise_tree.proofs.FillingTurns.{start_room, start_back, start_turns}
use Rattle.sise_tree.proofs.parse.Mark.put_start.Goals as goal

pub overflow_sub-node : goal.overflow_sub-node
overflow_sub-node c = let (text, p, can) = c.requires in let (w₀, f, h, u) = can in (start_back h u).0

pub put-requires : goal.put-requires
put-requires c = let (text, p, can) = c.requires in let (w₀, f, h, u) = can in omega (arith, (start_room h u).0, c.wide.ensures.same)

pub overflow_add-result : goal.overflow_add-result
overflow_add-result c = let (text, p, can) = c.requires in let (w₀, f, h, u) = can in omega (arith, (start_room h u).1)

pub returns : goal.returns
returns c = λ text p w₀ f h u. start_turns h u c.wide.ensures.same c.put.ensures
