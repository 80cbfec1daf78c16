-- A whole text with a final break, in the two strings of the house style.
use borrow.Author.Rules.{rules}
use Rattle.sise_tree_writer.specs.House.{house_style, house_at}
use Rattle.sise_tree_writer.proofs.house.serialize_house_at.Goals as goal

pub returns : goal.returns
unfolding house_style house_at
returns c = search rules
