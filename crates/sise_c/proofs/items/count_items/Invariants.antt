-- What the loop keeps: the items counted, and those that are left, are all; the position, which each item moves, measures what is left.
use Prim.Native.Nat.{◌-◌}
use lib.ListN.{length}
use Rattle.sise_c.specs.Passes.{Counts}
use Rattle.sise_c.proofs.items.count_items.Given as goal

abbrev pub invariant-loop-items : goal.invariant-loop-items
invariant-loop-items l = Counts l.text l.reader l.items

abbrev pub decreases-loop-items : goal.decreases-loop-items
decreases-loop-items l = length l.text - l.reader.position
