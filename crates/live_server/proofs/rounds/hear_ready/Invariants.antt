use Rattle.std.proofs.Common.{◌≡◌}
use Rattle.live_server.proofs.rounds.hear_ready.Given as goal

-- the doors tell as before of connections, looks and faults
abbrev pub invariant-loop : goal.invariant-loop
invariant-loop g l = record {
  book : g.D.Doors.book l.doors ≡ g.D.Doors.book l.initial.doors;
  looks : g.D.Doors.empty_looks l.doors ≡ g.D.Doors.empty_looks l.initial.doors;
  faults : g.D.Doors.faults l.doors ≡ g.D.Doors.faults l.initial.doors;
}
