-- A plain item is the next one, and its atom is plain.
use Rattle.sise_tree.proofs.PlainKinds.{plain_given}
use Rattle.sise_tree.proofs.parse.due_item.Goals as goal

pub returns-in-Some : goal.returns-in-Some
returns-in-Some c = plain_given _ _ c.plain_item.result c.in-Some.is c.plain_item.ensures.when c.plain_item.ensures.item
