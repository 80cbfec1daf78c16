-- Before each turn, running what is left of the words from here leaves what running all of them leaves.
use mathlib.Core.Path.{◌≡◌, sym, ap, ◌∙◌}
use Rattle.sise_serializer.specs.Words.{answer_word}
use Rattle.sise_serializer.proofs.Running.{start, none_runs, full, stopped, on}
use native.Mathlib.Omega.{arith}
use lib.ListN.{length}
use Rattle.std.proofs.lemmas.List.{set-get_or}
use Rattle.sise_serializer.proofs.calls.write_calls_from.Goals as goal

pub returns-then-not-is_sound : goal.returns-then-not-is_sound
returns-then-not-is_sound c = none_runs _ _ _ _ _ _ (sym c.is_sound.ensures ∙ c.if-not-is_sound.true)

pub loop-k-init : goal.loop-k-init
loop-k-init c = rw c.by_fields-serializer.ensures (start _ _ _ _ _ _ (sym c.is_sound.ensures ∙ c.if-not-is_sound.false))

pub returns-in_default : goal.returns-in_default
returns-in_default c = rw (set-get_or c.loop-k.answers c.loop-k.k 0) (stopped c.loop-k.invariant c.in_default.ensures)

pub invariant_of-run_call : goal.invariant_of-run_call
invariant_of-run_call c = record { sound = c.loop-k.invariant.sound }

pub loop-k-preserved : goal.loop-k-preserved
loop-k-preserved c =
    let does = rw (← c.wrote-wrote.ensures) at c.run_call-placed.ensures in
    on c.loop-k.invariant _ c.in-Some.behind.now (omega arith) c.in-Some.ensures.0
    (c.by_fields-serializer-in-loop-k.ensures ∙ does.serializer) (c.put_word.ensures ∙ ap answer_word does.answer) does.buffer c.run_call-placed.auto.buf

pub returns : goal.returns
returns c =
    let l = c.loop-k in
    let all : l.k ≡ length l.answers = omega arith in
    rw (← all) (full l.invariant (omega arith))
