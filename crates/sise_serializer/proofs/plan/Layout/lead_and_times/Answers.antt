-- A line's bytes are its break and its indentations.
use mathlib.Core.Path.{sym}
use Rattle.sise_serializer.proofs.Bytes.{layout_length}
use Rattle.sise_serializer.proofs.plan.Layout.lead_and_times.Goals as goal

pub returns-in-Line : goal.returns-in-Line
returns-in-Line c = rw c.in-Line.is (sym (layout_length c.args.style.line_break.now c.in-Line.times c.args.style.indentation.now))
