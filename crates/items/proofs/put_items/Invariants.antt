-- The loop ends, whatever the reader answers: the turns fall.
use Rattle.items.proofs.put_items.Given as goal

abbrev pub decreases-loop-turns : goal.decreases-loop-turns
decreases-loop-turns l = l.turns
