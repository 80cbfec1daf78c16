-- A token of no bytes is planned, and stands where each item would.
use mathlib.Core.Path.{refl}
use mathlib.Core.List.{[]}
use Rattle.sise_serializer.specs.Serializer.{style_of}
use Rattle.sise_tree_writer.proofs.Starting.{planned_starts, refused_starts}
use Rattle.sise_tree_writer.proofs.measure.first_offset.Goals as goal

pub returns-in-Ok : goal.returns-in-Ok
returns-in-Ok c = let a = c.args in planned_starts (style_of a.style) a.room a.w.serializer a.break_line_at (c.in-Ok.ensures [] refl)

pub returns-in-Err : goal.returns-in-Err
returns-in-Err c = let a = c.args in refused_starts (style_of a.style) a.room a.w.serializer a.break_line_at _ (c.in-Err.ensures [] refl)
