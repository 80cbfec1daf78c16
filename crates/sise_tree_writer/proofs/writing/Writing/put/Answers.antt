-- The tree is written, and the finish behind it.
use native.Mathlib.Omega.{arith}
use mathlib.Core.Path.{◌∙◌}
use Rattle.sise_serializer.specs.Serializer.{style_of}
use Rattle.sise_serializer.proofs.Bytes.{pasted_if_lem}
use Rattle.sise_tree_writer.proofs.Accepting.{writable, tree_made, text_ends, text_made}
use Rattle.sise_tree_writer.proofs.writing.Writing.put.Goals as goal

pub write_nodes-end-requires : goal.write_nodes-end-requires
write_nodes-end-requires c = let a = c.args in writable (style_of a.self.style) a.buf.now a.serializer a.self.tree.text.now a.self.tree.table.now a.self.break_line_at a.self.finish c.requires.1

pub returns-in-Some : goal.returns-in-Some
returns-in-Some c =
    let a = c.args in
    let taken = rw c.in-Some.is at c.requires.1 in
    let w = c.write_nodes-end.ensures in
    let ends = text_ends (style_of a.self.style) a.buf.now a.serializer a.self.tree.text.now a.self.tree.table.now a.self.break_line_at _ taken w in
    let wrote = rw c.final_break.ensures at c.paste.ensures in
    rw c.in-Some.is (text_made (style_of a.self.style) a.buf.now a.serializer a.self.tree.text.now a.self.tree.table.now a.self.break_line_at _ taken w (wrote ∙ pasted_if_lem _ _ _ (omega arith)))

pub returns-in_default : goal.returns-in_default
returns-in_default c =
    let a = c.args in
    let taken = rw c.in_default.is at c.requires.1 in
    rw c.in_default.is (tree_made (style_of a.self.style) a.buf.now a.serializer a.self.tree.text.now a.self.tree.table.now a.self.break_line_at taken c.write_nodes-end.ensures)
