-- From a fresh record write_calls_from runs all calls.
use Rattle.sise_serializer.proofs.Running.{fresh_runs}
use Rattle.sise_serializer.proofs.calls.write_calls.Goals as goal

pub returns : goal.returns
returns c = fresh_runs c.new.ensures c.write_calls_from.ensures
