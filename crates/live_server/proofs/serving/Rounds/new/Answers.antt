use Rattle.std.proofs.Common.{arith}
use Rattle.live_server.specs.Clients.{telling_by}
use Rattle.live_server.proofs.Beginning.{begins}
use Rattle.live_server.proofs.serving.Rounds.new.Goals as goal

pub returns-clause-serving : goal.returns-clause-serving
returns-clause-serving g c = begins g.T.Stands.key_of g.T.Served.tells g.T.Served.call_of c.args.place.now (g.C.Clock.given c.args.clock.now) (telling_by g.D.From.ReadySource.given g.D.From.ReadySource.faults g.D.To.ReadySink.taken g.D.To.ReadySink.faults) c.args.connections.now (g.D.Doors.book c.args.doors.now)
    c.requires _ (λ i. record c.args.connections.now { journal = c.new-connections.ensures i })

pub returns-clause-since : goal.returns-clause-since
returns-clause-since g c = λ looks faults accepted. record { looks_stay = omega arith; faults_stay = omega arith; why = tt }
