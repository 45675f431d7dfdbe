use Rattle.std.proofs.Common.{[]}
use Rattle.live_session.specs.Starts.{nothing_done}
use Rattle.server_tests.specs.Sessions.{none_seen}
use Rattle.server_tests.proofs.Going.{served_moved, served_waiting}
use Rattle.server_tests.proofs.connection.tests.take_turns.Goals as goal

pub loop-init : goal.loop-init
loop-init g c = (none_seen, nothing_done, [], [], c.new-connection.ensures.served c.args.place.now none_seen c.requires.fresh)

pub loop-preserved-in-Moved : goal.loop-preserved-in-Moved
loop-preserved-in-Moved g c =
    let s = c.loop.invariant in
    served_moved c.args.place.now _ _ _ _ _ _ _ _ _ _ _ _ _ _ (c.turn-turn.ensures.turned s.0 s.1 s.2 s.3 s.4) c.in-Moved.is

pub loop-preserved : goal.loop-preserved
loop-preserved g c =
    let s = c.loop.invariant in
    served_waiting c.args.place.now _ _ _ _ _ _ _ _ _ _ _ _ _ _ (c.turn-turn.ensures.turned s.0 s.1 s.2 s.3 s.4) c.in-NotYet.is
