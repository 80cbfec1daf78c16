-- The script stays as it is until the number's end; what was passed are digits, and the value is theirs and stays below 1,000,000,000.
use Rattle.std.proofs.Common.{◌≡◌, ◌<◌, take}
use Rattle.std.specs.Str.Parse.{AllDigits, digits_value}
use Rattle.script.proofs.Script.read_number.Given as goal

abbrev pub invariant-loop-at : goal.invariant-loop-at
invariant-loop-at l =
    (l.byte-items ≡ l.self-inside.rest.now)
    × AllDigits 10 (take l.at l.byte-items)
    × (l.value ≡ digits_value 10 (take l.at l.byte-items))
    × (l.value < 1000000000)
