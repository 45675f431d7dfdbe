use Rattle.std.proofs.Common.{length, ◌≡◌}
use Rattle.edge_tests.proofs.crowd.gather.Given as goal

-- so many came
abbrev pub invariant-loop-number : goal.invariant-loop-number
invariant-loop-number l = length l.doors.listed.arrivals ≡ l.number
