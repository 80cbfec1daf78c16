-- The four writes, one after the other, are one change of the words.
use native.Mathlib.Omega.{arith}
use lib.ListN.{length-set}
use Rattle.sise_tree.proofs.FillingLaws.{put_four}
use Rattle.sise_tree.proofs.parse.put.Goals as goal

pub bounds-table-i-2 : goal.bounds-table-i-2
bounds-table-i-2 c = simp length-set (omega (arith, c.requires))

pub bounds-table-i-3 : goal.bounds-table-i-3
bounds-table-i-3 c = simp length-set (omega (arith, c.requires))

pub bounds-table-i-4 : goal.bounds-table-i-4
bounds-table-i-4 c = simp length-set (omega (arith, c.requires))

pub returns : goal.returns
returns c = put_four _ _ _ _ _ _ (omega (arith, c.requires))
