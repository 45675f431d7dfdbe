use Rattle.std.proofs.Common.{length, ◌≡◌}
use Rattle.edge_tests.proofs.call.next_caller.Given as goal

-- nobody came so far, and none was given back
abbrev pub invariant-loop : goal.invariant-loop
invariant-loop l = (length l.doors.listed.arrivals ≡ length l.fn.doors.listed.arrivals) × (l.doors.listed.returns ≡ l.fn.doors.listed.returns)
