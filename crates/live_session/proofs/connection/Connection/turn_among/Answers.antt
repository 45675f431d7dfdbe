use Rattle.std.proofs.Common.{List, subst, sym, ap, ◌∙◌}
use Rattle.hand_cell.specs.Told.{Told}
use Rattle.session_calls.specs.Passes.{ArePassesOf}
use Rattle.live_session.specs.Among.{HasSettled, HasTurnedAmong}
use Rattle.live_session.specs.Turns.{Before, before_of}
use Rattle.live_session.proofs.Preparing.{behind_next}
use Rattle.live_session.proofs.Settling.{may_settle, turned_among}
use Rattle.live_session.proofs.connection.Connection.turn_among.Goals as goal

pub turn-turn-requires-clause-served : goal.turn-turn-requires-clause-served
turn-turn-requires-clause-served g c κs lives =
    let s = c.requires.served in
    let prepared = c.prepare.ensures.prepared s.0 s.1 s.2 s.3 s.4 in
    (prepared.sees, s.1, s.2, s.3, prepared.served)

pub settle-requires-clause-known : goal.settle-requires-clause-known
settle-requires-clause-known g c κs lives = subst (ArePassesOf c.args.place.now.cells.items) (sym c.prepare.ensures.same_known) c.requires.known

pub settle-requires-clause-may : goal.settle-requires-clause-may
settle-requires-clause-may g c κs lives =
    let s = c.requires.served in
    let prepared = c.prepare.ensures.prepared s.0 s.1 s.2 s.3 s.4 in
    may_settle g.T.Stands.key_of g.T.Served.tells g.T.Served.call_of c.args.place.now c.prepare.new.self c.turn-turn.new.self _ _ _ _ _ _ prepared.sees s.1 s.2 s.3 c.turn-turn.result.came_to c.turn-turn.result.step prepared.served
    (c.turn-turn.ensures.turned prepared.sees s.1 s.2 s.3 prepared.served) c.requires.calls.cells c.turn-turn.ensures.started

pub returns-clause-turned : goal.returns-clause-turned
returns-clause-turned g c seen log read written served =
    let prepared = c.prepare.ensures.prepared seen log read written served in
    let was = c.prepare.new.self in
    let is = c.turn-turn.new.self in
    let known = c.args.known.now.items in
    let step = c.turn-turn.result.step in
    let turn = c.turn-turn.ensures.turned prepared.sees log read written prepared.served in
    subst (λ (b : Before g.row.T.Denot g.row.T-Plan.Denot g.row.T-Event.Denot g.row.T-Outcome.Denot). HasTurnedAmong g.T.Stands.key_of g.T.Served.tells g.T.Served.call_of c.args.place.now (g.C.Clock.given c.args.clock.now) (g.C.Clock.given c.turn-turn.new.clock) c.args.journal.now c.turn-turn.new.journal b c.settle.new.self
    (record { from = record { given = g.F.ReadySource.given c.args.from.now; faults = g.F.ReadySource.faults c.args.from.now; unready = g.F.ReadySource.unready c.args.from.now }; to = record { bytes = g.K.ReadySink.taken c.args.to.now; faults = g.K.ReadySink.faults c.args.to.now; unready = g.K.ReadySink.unready c.args.to.now } })
    (record { from = record { given = g.F.ReadySource.given c.turn-turn.new.from; faults = g.F.ReadySource.faults c.turn-turn.new.from; unready = g.F.ReadySource.unready c.turn-turn.new.from }; to = record { bytes = g.K.ReadySink.taken c.turn-turn.new.to; faults = g.K.ReadySink.faults c.turn-turn.new.to; unready = g.K.ReadySink.unready c.turn-turn.new.to } })
    seen log read written c.turn-turn.result.came_to step known c.settle.new.known.items) (ap before_of c.prepare.ensures.same)
    (turned_among g.T.Stands.key_of g.T.Served.tells g.T.Served.call_of c.args.place.now was is _ _ _ _ _ _ prepared.sees log read written c.turn-turn.result.came_to step prepared.served turn c.requires.calls.cells c.turn-turn.ensures.started
    c.settle.new.self seen prepared.more
    (λ id partition at mine stands. prepared.own id partition at (mine ∙ (c.turn-turn.ensures.same_conn ∙ c.prepare.ensures.same_conn)) stands)
    known c.settle.new.known.items c.settle.ensures.same
    (behind_next g.T.Stands.key_of g.T.Served.tells g.T.Served.call_of c.args.place.now c.args.self.now seen log read written known was c.prepare.ensures.same prepared step c.turn-turn.ensures.started)
    (subst (λ (k : List (Told g.row.T-Event.Denot)). HasSettled g.T.Stands.key_of c.args.place.now step is c.settle.new.self k c.settle.new.known.items) c.prepare.ensures.same_known c.settle.ensures.settled))
