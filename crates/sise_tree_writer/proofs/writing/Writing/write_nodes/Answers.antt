-- Before each turn the calls left do as the whole does; a turn makes one call, which is accepted, and passes a node or closes a list.
use mathlib.Core.Path.{refl, ◌∙◌}
use Rattle.sise_tree_writer.specs.Walking.{begun}
use Rattle.sise_tree_writer.proofs.Atoms.{root_there}
use Rattle.sise_tree_writer.proofs.Walked.{walking_start, turn_good, turn_can, made_on, walk_end, walk_buffer}
use Rattle.sise_tree_writer.proofs.writing.Writing.write_nodes.Goals as goal

pub new-turn-items-requires : goal.new-turn-items-requires
new-turn-items-requires c = root_there _ _ c.requires.walkable.checked.holds

pub loop-turn-init : goal.loop-turn-init
loop-turn-init c =
    rw (c.into_iter-turn-iterator.ensures.into_iter_gives, c.new-turn-items.ensures, c.by_fields-w.ensures)
    ((c.requires.walkable.checked.holds, begun), tt, refl, walking_start _ _ _ _ _ _ _ _ c.requires.walkable (λ y. refl) (λ y n d. c.requires.fit n d))

pub invariant_of-sound : goal.invariant_of-sound
invariant_of-sound c = record { sound = c.loop-turn.invariant.3.sound }

pub write_turn-requires : goal.write_turn-requires
write_turn-requires c =
    let (can, ends, same, h) = c.loop-turn.invariant in
    let (p, is, its, on) = rw same at c.in-Some.ensures.steps.0 in
    record { good = turn_good h is _ its; accepted = turn_can h is _ its refl }

pub loop-turn-preserved : goal.loop-turn-preserved
loop-turn-preserved c =
    let (can, ends, same, h) = c.loop-turn.invariant in
    let (p, is, its, on) = rw same at c.in-Some.ensures.steps.0 in
    (c.in-Some.ensures.goes.keeps, tt, c.in-Some.ensures.steps.1 ∙ same, rw (on, c.by_fields-w-in-loop-turn.ensures) (made_on h is _ its refl c.write_turn.ensures))

pub shape_of-buf : goal.shape_of-buf
shape_of-buf c = c.loop-turn.invariant.3.long

pub returns : goal.returns
returns c = let h = c.loop-turn.invariant.3 in let none = c.in-None.ensures.steps.0 in record { end = λ n d. walk_end h none refl d; buffer = λ n d. walk_buffer h none refl d }
