-- A list and an atom are items, and their plan is that of their call.
use mathlib.Core.Path.{refl}
use mathlib.Core.List.{[], ◌∷◌}
use Rattle.sise_serializer.proofs.Does.{put_item, begin_item}
use Rattle.sise_tree_writer.proofs.Planned.{planned_record}
use Rattle.sise_tree_writer.proofs.writing.Writing.plan_turn.Goals as goal

pub returns-in-End : goal.returns-in-End
returns-in-End c = rw (c.in-End.is, c.behind.ensures) (planned_record _ _ _ _ _ _ c.plan_end.ensures)

pub returns-in-List : goal.returns-in-List
returns-in-List c = let a = c.args in rw (c.in-List.is, c.behind-in-List.ensures, begin_item _ _ a.w.serializer a.w.sound a.self.break_line_at) (planned_record _ _ _ _ _ _ (c.plan_item.ensures (40 ∷ []) refl))

pub returns-in-Atom : goal.returns-in-Atom
returns-in-Atom c =
    let a = c.args in
    let good = rw c.in-Atom.is at c.requires in
    rw (c.in-Atom.is, c.behind-in-Atom.ensures, ← c.threshold-line.ensures, put_item _ _ a.w.serializer a.w.sound c.in-Atom.bytes.now c.threshold-line.result good)
    (planned_record _ _ _ _ _ _ (c.plan_item-in-Atom.ensures c.in-Atom.bytes.now refl))
