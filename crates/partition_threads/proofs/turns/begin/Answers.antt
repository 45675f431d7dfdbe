use Rattle.std.proofs.Common.{refl}
use Rattle.hand_cell.specs.declared.names.Key.TheVariants.{Call}
use Rattle.hand_cell.proofs.Fresh.{still_new}
use Rattle.partition_threads.proofs.Serving.{came}
use Rattle.partition_threads.proofs.turns.begin.Goals as goal

pub run_call-event-requires-clause-unused : goal.run_call-event-requires-clause-unused
run_call-event-requires-clause-unused g c κs within =
    let entered = c.requires.turn in let first = c.args.first.value in
    rw entered.pass (still_new g.T.Stands.key_of first.names (Call c.args.request.id) first.seen entered.later c.requires.named c.requires.unused entered.not_own)

pub returns : goal.returns
returns g c = record {
  same_member = refl;
  same_partition = refl;
  same_id = refl;
  first_noted = refl;
  event_noted = c.run_call-event.ensures.noted;
  key = c.run_call-event.ensures.key;
  served = came g.T.Stands.key_of g.T.Served.tells _ c.args.first.value c.args.turn c.run_call-event.new.turn c.leave.result c.run_call-event.result.1 refl refl c.requires.turn c.run_call-event.ensures.pass c.run_call-event.ensures.served c.leave.ensures;
}
