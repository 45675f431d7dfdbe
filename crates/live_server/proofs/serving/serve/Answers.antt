use Rattle.std.proofs.Common.{refl, ◌∙◌}
use Rattle.live_server.specs.Clients.{telling_by}
use Rattle.live_server.proofs.Beginning.{has_served, keeps_the_order, rests}
use Rattle.live_server.proofs.Timely.{answers_stand_first}
use Rattle.live_server.proofs.serving.serve.Goals as goal

pub loop-init : goal.loop-init
loop-init g c = record { serving = c.new-rounds.ensures.serving; opening = refl; since = c.new-rounds.ensures.since _ _ _ }

pub loop-preserved : goal.loop-preserved
loop-preserved g c = record {
  serving = c.serve_round-round.ensures.serving;
  opening = c.serve_round-round.ensures.opening ∙ c.loop.invariant.opening;
  since = c.in-Next.ensures.since _ _ c.loop.invariant.since;
}

pub returns-in-Last-clause-served : goal.returns-in-Last-clause-served
returns-in-Last-clause-served g c =
    has_served g.T.Stands.key_of g.T.Served.tells g.T.Served.call_of c.args.place.now (g.C.Clock.given c.serve_round-round.new.clock) (telling_by g.D.From.ReadySource.given g.D.From.ReadySource.faults g.D.To.ReadySink.taken g.D.To.ReadySink.faults)
    c.serve_round-round.new.connections (g.D.Doors.book c.serve_round-round.new.doors) c.serve_round-round.ensures.serving (c.in-Last.ensures.since _ _ c.loop.invariant.since).none_left

pub returns-in-Last-clause-all_in : goal.returns-in-Last-clause-all_in
returns-in-Last-clause-all_in g c = (c.in-Last.ensures.since _ _ c.loop.invariant.since).all_in

pub returns-in-Last-clause-rests : goal.returns-in-Last-clause-rests
returns-in-Last-clause-rests g c =
    rests g.T.Stands.key_of g.T.Served.tells g.T.Served.call_of c.args.place.now (g.C.Clock.given c.serve_round-round.new.clock) (telling_by g.D.From.ReadySource.given g.D.From.ReadySource.faults g.D.To.ReadySink.taken g.D.To.ReadySink.faults)
    c.serve_round-round.new.connections (g.D.Doors.book c.serve_round-round.new.doors) c.serve_round-round.ensures.serving (c.in-Last.ensures.since _ _ c.loop.invariant.since).none_left

pub returns-in-Last-clause-opening : goal.returns-in-Last-clause-opening
returns-in-Last-clause-opening g c = c.serve_round-round.ensures.opening ∙ c.loop.invariant.opening

pub returns-in-Last-clause-cause : goal.returns-in-Last-clause-cause
returns-in-Last-clause-cause g c = (c.in-Last.ensures.since _ _ c.loop.invariant.since).cause

pub returns-in-Last-clause-in_time : goal.returns-in-Last-clause-in_time
returns-in-Last-clause-in_time g c =
    answers_stand_first g.T.Stands.key_of g.T.Served.tells g.T.Served.call_of c.args.place.now (g.C.Clock.given c.serve_round-round.new.clock) c.serve_round-round.new.connections.journal c.serve_round-round.new.connections.passes.items (g.D.Doors.book c.serve_round-round.new.doors)
    (keeps_the_order g.T.Stands.key_of g.T.Served.tells g.T.Served.call_of c.args.place.now (g.C.Clock.given c.serve_round-round.new.clock) (telling_by g.D.From.ReadySource.given g.D.From.ReadySource.faults g.D.To.ReadySink.taken g.D.To.ReadySink.faults)
    c.serve_round-round.new.connections (g.D.Doors.book c.serve_round-round.new.doors) c.serve_round-round.ensures.serving (c.in-Last.ensures.since _ _ c.loop.invariant.since).none_left)

pub returns-in-Last-clause-in_order : goal.returns-in-Last-clause-in_order
returns-in-Last-clause-in_order g c =
    keeps_the_order g.T.Stands.key_of g.T.Served.tells g.T.Served.call_of c.args.place.now (g.C.Clock.given c.serve_round-round.new.clock) (telling_by g.D.From.ReadySource.given g.D.From.ReadySource.faults g.D.To.ReadySink.taken g.D.To.ReadySink.faults)
    c.serve_round-round.new.connections (g.D.Doors.book c.serve_round-round.new.doors) c.serve_round-round.ensures.serving (c.in-Last.ensures.since _ _ c.loop.invariant.since).none_left
