-- The reader goes on from the place that was seen.
use mathlib.Core.Path.{◌∙◌}
use Rattle.sise_parser.proofs.reader.Reader.behind.Goals as goal

pub token_ahead-next-requires-clause-sound : goal.token_ahead-next-requires-clause-sound
token_ahead-next-requires-clause-sound c = c.requires.sound

pub returns : goal.returns
returns c = rw c.by_fields.ensures (c.token_ahead-next.ensures ∙ c.requires.same)
