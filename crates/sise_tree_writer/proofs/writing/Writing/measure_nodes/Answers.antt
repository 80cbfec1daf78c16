-- Before each turn the calls left do as the whole does; a turn plans one call, and passes a node or closes a list.
use mathlib.Core.Bool.{false≢true}
use mathlib.Core.Path.{refl, ◌∙◌}
use Rattle.std.proofs.lemmas.Result.{err_from_is_err_and}
use Rattle.sise_tree_writer.specs.Walking.{begun}
use Rattle.sise_tree_writer.proofs.Atoms.{root_there}
use Rattle.sise_tree_writer.proofs.Finishing.{accepted_as}
use Rattle.sise_tree_writer.proofs.Walked.{walking_start, turn_good, turn_off, turn_on, walk_off, walk_all}
use Rattle.sise_tree_writer.proofs.writing.Writing.measure_nodes.Goals as goal

pub new-turn-items-requires : goal.new-turn-items-requires
new-turn-items-requires c = root_there _ _ c.requires.checked.holds

pub loop-turn-init : goal.loop-turn-init
loop-turn-init c =
    rw (c.into_iter-turn-iterator.ensures.into_iter_gives, c.new-turn-items.ensures, c.by_fields-w.ensures)
    ((c.requires.checked.holds, begun), tt, refl, walking_start _ _ _ _ _ _ _ _ c.requires (λ y. absurd (false≢true y)) (λ y n d. absurd (false≢true y)))

pub invariant_of-sound : goal.invariant_of-sound
invariant_of-sound c = record { sound = c.loop-turn.invariant.3.sound }

pub plan_turn-requires : goal.plan_turn-requires
plan_turn-requires c = let (can, ends, same, h) = c.loop-turn.invariant in let (p, is, its, on) = rw same at c.in-Some.ensures.steps.0 in turn_good h is _ its

pub returns-in_err-plan_turn : goal.returns-in_err-plan_turn
returns-in_err-plan_turn c =
    let (can, ends, same, h) = c.loop-turn.invariant in
    let (p, is, its, on) = rw same at c.in-Some.ensures.steps.0 in
    let p = err_from_is_err_and c.from_residual.result c.from_residual.ensures.1 in
    rw (p.1, p.2, c.in_err-plan_turn.ensures.0) (λ n d. walk_off h (turn_off h is _ its c.in_err-plan_turn.ensures.1) d)

pub loop-turn-preserved : goal.loop-turn-preserved
loop-turn-preserved c =
    let (can, ends, same, h) = c.loop-turn.invariant in
    let (p, is, its, on) = rw same at c.in-Some.ensures.steps.0 in
    let (o, e) = accepted_as _ c.in_ok-plan_turn.ensures.1 in
    (c.in-Some.ensures.goes.keeps, tt, c.in-Some.ensures.steps.1 ∙ same, rw (on, c.by_fields-w-in-loop-turn.ensures) (turn_on h is _ its c.in_ok-plan_turn.ensures.0 e refl))

pub returns : goal.returns
returns c = λ n d. walk_all c.loop-turn.invariant.3 c.in-None.ensures.steps.0 c.first_offset-offset.ensures d
