-- The item is accepted, so its piece has room: the first item's, or one in a list, where the threshold picks the gap.
use Rattle.sise_serializer.specs.Serializer.{style_of}
use Rattle.sise_serializer.proofs.Does.{item_first, item_on_new_line, item_in_line}
use Rattle.sise_tree_writer.proofs.Planned.{has_room, done, item_writing}
use Rattle.sise_tree_writer.proofs.write.write_item.Goals as goal

pub write_first-requires : goal.write_first-requires
write_first-requires c = let a = c.args in has_room _ _ _ c.requires (item_first (style_of a.style) _ a.w.serializer a.token.now a.is_list a.break_line_at c.in-Beginning.is)

pub returns-in-Beginning : goal.returns-in-Beginning
returns-in-Beginning c = let a = c.args in done _ _ _ c.requires (item_first (style_of a.style) _ a.w.serializer a.token.now a.is_list a.break_line_at c.in-Beginning.is) c.write_first.ensures

pub write_on_new_line-requires : goal.write_on_new_line-requires
write_on_new_line-requires c = let a = c.args in has_room _ _ _ c.requires (item_on_new_line (style_of a.style) _ a.w.serializer a.token.now a.is_list a.break_line_at (item_writing (style_of a.style) _ a.w.serializer a.token.now a.is_list a.break_line_at c.requires c.in_default.not-Beginning) c.if-break_line_at-w.true)

pub returns-then-break_line_at-w : goal.returns-then-break_line_at-w
returns-then-break_line_at-w c = let a = c.args in done _ _ _ c.requires (item_on_new_line (style_of a.style) _ a.w.serializer a.token.now a.is_list a.break_line_at (item_writing (style_of a.style) _ a.w.serializer a.token.now a.is_list a.break_line_at c.requires c.in_default.not-Beginning) c.if-break_line_at-w.true) c.write_on_new_line.ensures

pub write_in_line-requires : goal.write_in_line-requires
write_in_line-requires c = let a = c.args in has_room _ _ _ c.requires (item_in_line (style_of a.style) _ a.w.serializer a.token.now a.is_list a.break_line_at (item_writing (style_of a.style) _ a.w.serializer a.token.now a.is_list a.break_line_at c.requires c.in_default.not-Beginning) c.if-break_line_at-w.false)

pub returns : goal.returns
returns c = let a = c.args in done _ _ _ c.requires (item_in_line (style_of a.style) _ a.w.serializer a.token.now a.is_list a.break_line_at (item_writing (style_of a.style) _ a.w.serializer a.token.now a.is_list a.break_line_at c.requires c.in_default.not-Beginning) c.if-break_line_at-w.false) c.write_in_line.ensures
