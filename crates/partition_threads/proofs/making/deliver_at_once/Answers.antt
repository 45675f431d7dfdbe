use Rattle.std.proofs.Common.{Some, None}
use Rattle.job_queues.specs.Roster.{roster_of}
use Rattle.partition_threads.proofs.MadeCalls.{ran_on}
use Rattle.partition_threads.proofs.making.deliver_at_once.Goals as goal

pub try_delivery_turn-requires-clause-call : goal.try_delivery_turn-requires-clause-call
try_delivery_turn-requires-clause-call g c κs within = (c.requires.call.0, (c.loop.invariant c.requires.call.0 c.requires.call.1).begun)

pub returns-in-Known : goal.returns-in-Known
returns-in-Known g c = λ terms begun. let was = c.loop.invariant terms begun in
    ran_on g.T.Stands.key_of g.T.Served.tells g.T.Served.call_of (roster_of c.args.place.now.cells.items) terms c.args.call.member c.args.call.partition c.args.call.id c.loop.going c.in-Known.call None (Some c.in-Known.outcome) was
    (c.in-Known.ensures terms was.begun)

pub returns-in-Rests : goal.returns-in-Rests
returns-in-Rests g c = λ terms begun. let was = c.loop.invariant terms begun in
    ran_on g.T.Stands.key_of g.T.Served.tells g.T.Served.call_of (roster_of c.args.place.now.cells.items) terms c.args.call.member c.args.call.partition c.args.call.id c.loop.going c.in-Rests.call None None was
    (c.in-Rests.ensures terms was.begun)

pub loop-preserved : goal.loop-preserved
loop-preserved g c = λ terms begun. let was = c.loop.invariant terms begun in
    ran_on g.T.Stands.key_of g.T.Served.tells g.T.Served.call_of (roster_of c.args.place.now.cells.items) terms c.args.call.member c.args.call.partition c.args.call.id c.loop.going c.in-Delivered.call None None was
    (c.in-Delivered.ensures terms was.begun)
