-- Each arm writes its item, by the item's own law.
use Rattle.sise_tree.proofs.FillingTurns.{end_closable, end_turns}
use Rattle.sise_tree.proofs.parse.Mark.put_item.Goals as goal

pub put_atom-requires : goal.put_atom-requires
put_atom-requires c = let (text, its, can) = c.requires in let (w₀, f, h, u) = can in (text, rw c.in-Atom.is at its, (w₀, f, h, rw c.in-Atom.is at u))

pub put_start-requires : goal.put_start-requires
put_start-requires c = let (text, its, can) = c.requires in let (w₀, f, h, u) = can in (text, _, (w₀, f, h, rw c.in-ListStart.is at u))

pub close_list-requires : goal.close_list-requires
close_list-requires c = let (text, its, can) = c.requires in let (w₀, f, h, u) = can in end_closable f h (rw c.in-ListEnd.is at u)

pub returns-in-Atom : goal.returns-in-Atom
returns-in-Atom c = λ text its w₀ f h u. rw c.in-Atom.is (c.put_atom.ensures text (rw c.in-Atom.is at its) w₀ f h (rw c.in-Atom.is at u))

pub returns-in-ListStart : goal.returns-in-ListStart
returns-in-ListStart c = λ text its w₀ f h u. rw c.in-ListStart.is (c.put_start.ensures text _ w₀ f h (rw c.in-ListStart.is at u))

pub returns-in-ListEnd : goal.returns-in-ListEnd
returns-in-ListEnd c = λ text its w₀ f h u. rw c.in-ListEnd.is (end_turns f h (rw c.in-ListEnd.is at u) c.close_list.ensures.same c.close_list.ensures.closes)
