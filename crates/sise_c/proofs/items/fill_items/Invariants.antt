-- What the loop keeps: writing the words of the items that are left gives the words of all; the position measures what is left.
use Prim.Native.Nat.{◌-◌}
use lib.ListN.{length}
use Rattle.sise_c.specs.Passes.{Fills}
use Rattle.sise_c.proofs.items.fill_items.Given as goal

abbrev pub invariant-loop-item : goal.invariant-loop-item
invariant-loop-item l = Fills l.text l.initial.words l.reader l.words l.items

abbrev pub decreases-loop-item : goal.decreases-loop-item
decreases-loop-item l = length l.text - l.reader.position
