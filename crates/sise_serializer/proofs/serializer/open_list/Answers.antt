-- The start of a list is an item.
use Rattle.sise_serializer.proofs.Does.{begin_item}
use Rattle.sise_serializer.proofs.serializer.open_list.Goals as goal

pub returns : goal.returns
returns c = let a = c.args in rw (begin_item _ _ a.w.serializer a.w.sound _) c.write_item.ensures
