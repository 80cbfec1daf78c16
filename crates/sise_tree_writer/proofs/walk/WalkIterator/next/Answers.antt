-- The turn that is due leads on, with fewer turns left.
use Rattle.sise_tree_writer.proofs.Turns.{node_in, atom_in, may_pass, nearer}
use Rattle.sise_tree_writer.proofs.walk.WalkIterator.next.Goals as goal

pub turn-turn-requires : goal.turn-turn-requires
turn-turn-requires c = let can = rw c.in_ok-place.was at c.requires in record { node = node_in can; atom = atom_in can }

pub pass-self-requires : goal.pass-self-requires
pass-self-requires c = may_pass (rw c.in_ok-place.was at c.requires) _ c.turn-turn.ensures

pub returns-clause-goes : goal.returns-clause-goes
returns-clause-goes c =
    let (can, less) = nearer (rw c.in_ok-place.was at c.requires) _ c.turn-turn.ensures in
    rw (c.in_ok-place.was, c.pass-self.ensures) (record { on = λ f. (can, tt, less); keeps = can; rests = λ f. tt })
