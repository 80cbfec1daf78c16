-- The line's four numbers, and the line break and the indentation behind them.
use Rattle.std.proofs.Common.{◌∙◌, refl, sym, ap, List, ℕ, ◌++◌, append_assoc, arith}
use Rattle.script.proofs.Laws.{line_first, line_more, line_last}
use Rattle.script.proofs.Script.read_writer_case.Goals as goal

pub returns : goal.returns
returns c =
    rw c.new.ensures (
      line_first _ _ _ c.in_ok-room.ensures refl
          (line_more _ _ _ c.in_ok-line_break_len.ensures c.in_ok-line_break.ensures.len
          (line_more _ _ _ c.in_ok-indentation_len.ensures c.in_ok-indentation.ensures.len
          (line_last c.in_ok-calls.ensures
          (c.in_ok-line_break.ensures.front
          ∙ ap (λ (x : List ℕ). c.in_ok-line_break.line_break.now ++ x) c.in_ok-indentation.ensures.front
          ∙ sym (append_assoc c.in_ok-line_break.line_break.now _ _))))),
      omega arith,
      omega (arith, c.in_ok-line_break.ensures.len),
      omega (arith, c.in_ok-indentation.ensures.len),
    )
