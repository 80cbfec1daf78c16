-- The line's three numbers, and the text behind them.
use Rattle.std.proofs.Common.{refl, arith}
use Rattle.script.proofs.Laws.{line_first, line_more, line_last}
use Rattle.script.proofs.Script.read_text_case.Goals as goal

pub returns : goal.returns
returns c = (
  line_first _ _ _ c.in_ok-len.ensures c.in_ok-text.ensures.len
      (line_more _ _ _ c.in_ok-calls.ensures refl
      (line_last c.in_ok-last.ensures c.in_ok-text.ensures.front)),
  omega arith,
)
