-- What the loop keeps: the place is within the block.
use Rattle.std.proofs.Common.{◌≤◌}
use Rattle.replay_reader.proofs.put_case.Given as goal

abbrev pub invariant-loop : goal.invariant-loop
invariant-loop l = l.out.place ≤ 4096
