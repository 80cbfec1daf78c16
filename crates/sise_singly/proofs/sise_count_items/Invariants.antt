-- The items counted, and those of as many calls as are left, are all.
use mathlib.Core.Path.{◌≡◌}
use Prim.Native.Nat.{◌+◌, ◌-◌}
use lib.ListN.{length}
use Rattle.sise_singly.specs.Count.{count_from, count_items}
use Rattle.sise_singly.proofs.sise_count_items.Given as goal

abbrev pub invariant-loop-count : goal.invariant-loop-count
invariant-loop-count l = l.count + count_from (length l.text + 1 - l.count) l.text l.reader ≡ count_items l.text
