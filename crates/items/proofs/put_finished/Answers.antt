-- The line is that of the answer that it is.
use Rattle.std.proofs.Common.{◌≡◌, ◌∙◌, sym, ap, [], ◌∷◌, Result}
use Rattle.sise_parser.specs.Refusals.{refusal_of}
use Rattle.sise_parser.specs.declared.error.ParseError.{ParseError}
use Rattle.lines.specs.Put.{Output, put, refusal_text}
use Rattle.lines.proofs.Laws.{put_both}
use Rattle.items.specs.Last.{last_line}
use Rattle.items.proofs.put_finished.Goals as goal
use Rattle.items.proofs.put_finished.Goals.{in-Ok, in-Err}

-- what is put for the answer that it is
put_as_lem : {f g : Result (Unit {0}) ParseError} {p : Output} (o : Output) → f ≡ g → p ≡ put o (last_line g) → p ≡ put o (last_line f)
put_as_lem o e h = h ∙ ap (λ (x : Result (Unit {0}) ParseError). put o (last_line x)) (sym e)

pub returns : goal.returns
unfolding last_line
returns c = elim c.match-finished.branch [
  | in-Ok w ↦ put_as_lem _ w.in-Ok.is (put_both _ (111 ∷ 107 ∷ []) (10 ∷ []) (w.out-is ∙ w.put_bytes.ensures) c.put_byte.ensures)
  | in-Err w ↦ put_as_lem _ w.in-Err.is (put_both _ (refusal_text _ 2 (refusal_of _)) (10 ∷ []) (w.out-is ∙ w.put_refusal.ensures) c.put_byte.ensures)
]
