-- The words are put behind those of the open lists, and the innermost list counts the atom.
use native.Mathlib.Omega.{arith}
use Rattle.sise_tree.proofs.FillingTurns.{atom_room, atom_attachable, atom_turns}
use Rattle.sise_tree.proofs.parse.Mark.put_atom.Goals as goal

pub overflow_cast-node : goal.overflow_cast-node
overflow_cast-node c = let (text, its, can) = c.requires in let (w₀, f, h, u) = can in omega (arith, u.lies, u.short)

pub overflow_cast-node-2 : goal.overflow_cast-node-2
overflow_cast-node-2 c = let (text, its, can) = c.requires in let (w₀, f, h, u) = can in omega (arith, u.lies, u.short)

pub put-requires : goal.put-requires
put-requires c = let (text, its, can) = c.requires in let (w₀, f, h, u) = can in omega (arith, (atom_room h u).0, c.wide.ensures.same)

pub count_child-requires : goal.count_child-requires
count_child-requires c = let (text, its, can) = c.requires in let (w₀, f, h, u) = can in (f, _, _, atom_attachable h u c.wide.ensures.same its c.put.ensures)

pub overflow_add-result : goal.overflow_add-result
overflow_add-result c = let (text, its, can) = c.requires in let (w₀, f, h, u) = can in omega (arith, (atom_room h u).1)

pub returns : goal.returns
returns c = λ text its w₀ f h u. atom_turns h u c.wide.ensures.same its c.put.ensures c.count_child.ensures
