-- The text lies after the letter, the style, the tree's line and the stores after it, and each path after the last.
use Rattle.script.proofs.Laws.{onward_both, onward_byte, text_past, style_past, tree_past, numbers_past}
use Rattle.replay.proofs.tree_case.run.Goals as goal

pub loop-init : goal.loop-init
loop-init c =
    onward_both (text_past _ c.in_ok-case.case c.in_ok-case.ensures)
    (onward_both (onward_byte 87 c.in_ok-read_byte.ensures)
    (onward_both (style_past _ c.in_ok-writer.writer c.in_ok-writer.ensures.0)
    (onward_both (tree_past _ c.in_ok-calls.calls c.in_ok-calls.ensures)
    (numbers_past _ c.in_ok-read_numbers.field-0 c.in_ok-read_numbers.ensures))))

pub loop-preserved : goal.loop-preserved
loop-preserved c = onward_both c.loop.invariant (numbers_past _ c.in_ok-read_numbers-2.field-0 c.in_ok-read_numbers-2.ensures)
