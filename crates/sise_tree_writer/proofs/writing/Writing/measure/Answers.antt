-- The plan says what one call would do in each buffer of so many bytes, and the enquiry is the size of that.
use Prim.Native.Nat.{ℕ}
use lib.ListN.{replicate, length-replicate}
use Rattle.sise_serializer.specs.Serializer.{style_of}
use Rattle.sise_tree_writer.specs.Writing.{calls_of}
use Rattle.sise_tree_writer.proofs.Sizes.{measured_grown}
use Rattle.sise_tree_writer.proofs.writing.Writing.measure.Goals as goal

pub size_between-requires : goal.size_between-requires
size_between-requires c =
    let a = c.args in
    measured_grown (style_of a.self.style) (replicate a.room 0) a.serializer a.self.tree.text.now a.self.tree.table.now (calls_of a.self.tree.text.now a.self.break_line_at a.self.finish) (c.in_ok-planned.ensures (replicate a.room 0) (length-replicate {A = ℕ} a.room 0))
