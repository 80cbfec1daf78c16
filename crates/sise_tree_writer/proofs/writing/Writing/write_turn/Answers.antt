-- A list and an atom are items.
use Rattle.sise_serializer.proofs.Does.{put_item, begin_item}
use Rattle.sise_tree_writer.proofs.writing.Writing.write_turn.Goals as goal

pub write_item-requires : goal.write_item-requires
write_item-requires c = let a = c.args in rw (begin_item _ _ a.w.serializer a.w.sound a.self.break_line_at) at (rw c.in-List.is at c.requires.accepted)

pub write_item-requires-in-Atom : goal.write_item-requires-in-Atom
write_item-requires-in-Atom c =
    let a = c.args in
    let good = rw c.in-Atom.is at c.requires.good in
    rw c.threshold.ensures (rw (put_item _ _ a.w.serializer a.w.sound c.in-Atom.bytes.now _ good) at (rw c.in-Atom.is at c.requires.accepted))

pub returns-in-List : goal.returns-in-List
returns-in-List c = let a = c.args in rw (c.in-List.is, begin_item _ _ a.w.serializer a.w.sound a.self.break_line_at) c.write_item.ensures

pub returns-in-Atom : goal.returns-in-Atom
returns-in-Atom c =
    let a = c.args in
    let good = rw c.in-Atom.is at c.requires.good in
    rw (c.in-Atom.is, ← c.threshold.ensures, put_item _ _ a.w.serializer a.w.sound c.in-Atom.bytes.now c.threshold.result good) c.write_item-in-Atom.ensures
