-- The numbers so far were read from what the count left.
use Rattle.std.proofs.Common.{take}
use Rattle.script.specs.Numbers.{Each}
use Rattle.script.proofs.Script.read_numbers.Given as goal

abbrev pub invariant-loop-number : goal.invariant-loop-number
invariant-loop-number l = Each l.initial.self (take l.number-index l.numbers) l.self
