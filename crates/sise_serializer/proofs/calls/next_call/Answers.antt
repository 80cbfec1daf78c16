-- Where fewer than four words are left there is no call; else the kind tells.
use mathlib.Core.Path.{refl, ◌∙◌}
use Rattle.sise_serializer.proofs.Running.{decoded_short, decoded_four, call_at_take}
use Rattle.sise_serializer.proofs.calls.next_call.Goals as goal

pub returns-in_err-four : goal.returns-in_err-four
returns-in_err-four c = rw c.from_residual.ensures (decoded_short c.args.words.now c.args.atoms.now c.in_err-four.ensures.cases)

pub returns-in_err-call : goal.returns-in_err-call
returns-in_err-call c =
    let h = c.in_ok-four.ensures.cases in
    rw c.from_residual-in_err-call.ensures
    (decoded_four c.args.words.now c.in_ok-four.four.now c.in_ok-four.behind.now c.args.atoms.now h ∙ rw c.in_err-call.ensures refl)

pub returns : goal.returns
returns c =
    let h = c.in_ok-four.ensures.cases in (
      decoded_four c.args.words.now c.in_ok-four.four.now c.in_ok-four.behind.now c.args.atoms.now h ∙ rw (c.in_ok-call.ensures.0, c.in_ok-call.ensures.1) refl,
      h.1,
      c.in_ok-call.ensures.1 ∙ rw h.0 (call_at_take c.args.words.now c.args.atoms.now),
    )
