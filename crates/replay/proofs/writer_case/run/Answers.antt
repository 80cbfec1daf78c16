-- The style lies after the letter, and each call after the last.
use Rattle.script.proofs.Laws.{onward_both, style_past, call_past}
use Rattle.replay.proofs.writer_case.run.Goals as goal

pub loop-init : goal.loop-init
loop-init c = style_past _ c.in_ok-case.case c.in_ok-case.ensures.0

pub loop-preserved : goal.loop-preserved
loop-preserved c = onward_both c.loop.invariant (call_past _ c.in_ok-call.call c.in_ok-call.ensures)
