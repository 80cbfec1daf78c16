-- The text and its line end lie in the script, after the letter.
use Rattle.script.proofs.Laws.{text_past}
use Rattle.replay_reader.proofs.run.Goals as goal

pub returns-clause-read : goal.returns-clause-read
returns-clause-read c = text_past _ c.in_ok-read_text_case.field-0 c.in_ok-read_text_case.ensures
