use Rattle.std.proofs.Common.{◌≡◌, length}
use Rattle.live_server.specs.Clients.{telling_by}
use Rattle.live_server.specs.Rounds.{IsAfter}
use Rattle.live_server.specs.Standing.{IsServing}
use Rattle.live_server.proofs.serving.serve.Given as goal

abbrev pub invariant-loop : goal.invariant-loop
invariant-loop g l = record {
  serving : IsServing g.T.Stands.key_of g.T.Served.tells g.T.Served.call_of l.place (g.C.Clock.given l.clock) (telling_by g.D.From.ReadySource.given g.D.From.ReadySource.faults g.D.To.ReadySink.taken g.D.To.ReadySink.faults) l.connections (g.D.Doors.book l.doors);
  opening : (g.D.Doors.book l.doors).opening ≡ (g.D.Doors.book l.initial.doors).opening;
  since : IsAfter g.D.Doors.empty_looks l.rounds (g.D.Doors.empty_looks l.initial.doors) (g.D.Doors.empty_looks l.doors) (g.D.Doors.faults l.initial.doors) (g.D.Doors.faults l.doors) (length (g.D.Doors.book l.doors).arrivals);
}
