-- Before each turn the calls left do as the whole does; a turn plans one call, and passes a node or closes a list.
use mathlib.Core.Path.{◌≡◌}
use mathlib.Core.Bool.{false}
use mathlib.Core.List.{[]}
use Rattle.sise_serializer.specs.Serializer.{style_of}
use Rattle.sise_tree_writer.proofs.Walked.{Walking}
use Rattle.sise_tree_writer.proofs.writing.Writing.measure_nodes.Given as goal

abbrev pub invariant-loop-turn : goal.invariant-loop-turn
invariant-loop-turn l =
    (goal.iterator-loop-turn).can_next l.turn-iterator × (goal.iterator-loop-turn).is_finite l.turn-iterator × (l.turn-iterator.tree ≡ l.self.tree)
    × Walking (style_of l.self.style) l.self.tree.text.now l.self.tree.table.now l.self.break_line_at false l.room [] l.serializer [] l.w l.turn-iterator.due
