-- As in write_calls: before each turn, running what is left of the words from here leaves what running all of them leaves.
use mathlib.Core.Path.{◌≡◌, refl, ap, ◌∙◌}
use native.Mathlib.Omega.{arith}
use lib.ListN.{length}
use Rattle.std.proofs.lemmas.List.{set-get_or}
use Rattle.sise_serializer.specs.Words.{answer_word}
use Rattle.sise_serializer.proofs.Running.{start_fresh, fresh_runs, full, stopped, on}
use Rattle.sise_singly.proofs.run_calls.Goals as goal

pub loop-k-init : goal.loop-k-init
loop-k-init c = start_fresh _ _ _ _ _ _ c.new-w.ensures

pub returns-in_default : goal.returns-in_default
returns-in_default c = rw (set-get_or c.loop-k.answers c.loop-k.k 0) (fresh_runs refl (stopped c.loop-k.invariant c.in_default.ensures))

pub loop-k-preserved : goal.loop-k-preserved
loop-k-preserved c =
    let does = c.call_method-wrote.ensures in
    on c.loop-k.invariant _ c.in-Some.behind.now (omega arith) c.in-Some.ensures.0
    does.serializer (c.put_word.ensures ∙ ap answer_word does.answer) does.buffer c.call_method-wrote.auto.buf

pub returns : goal.returns
returns c =
    let l = c.loop-k in
    let all : l.k ≡ length l.answers = omega arith in
    rw (← all) (fresh_runs refl (full l.invariant (omega arith)))
