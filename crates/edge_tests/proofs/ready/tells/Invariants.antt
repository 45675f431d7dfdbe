use Rattle.std.proofs.Common.{◌≡◌}
use Rattle.edge_tests.proofs.ready.tells.Given as goal

-- nobody came so far, and none was given back
abbrev pub invariant-loop-key : goal.invariant-loop-key
invariant-loop-key g l = g.D.Doors.book l.doors ≡ g.D.Doors.book l.fn.doors
