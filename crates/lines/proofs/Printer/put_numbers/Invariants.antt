-- To put the numbers that are left is to put all of them from the beginning.
use Rattle.std.proofs.Common.{◌≡◌, drop}
use Rattle.lines.specs.Put.{put, numbers_text}
use Rattle.lines.proofs.Printer.put_numbers.Given as goal

abbrev pub invariant-loop-number : goal.invariant-loop-number
invariant-loop-number l = put l.self (numbers_text (drop l.number-index l.numbers)) ≡ put l.initial.self (numbers_text l.numbers)
