use Rattle.std.proofs.Common.{◌∙◌}
use Rattle.partition_threads.proofs.Calling.{goes_on_to}
use Rattle.partition_threads.proofs.Places.{plan_at}
use Rattle.partition_threads.proofs.Serving.{stepped}
use Rattle.partition_threads.proofs.turns.try_delivery_turn.Goals as goal

pub returns-in-Ok : goal.returns-in-Ok
returns-in-Ok g c terms is =
    let key_of = g.T.Stands.key_of in
    let tells = g.T.Served.tells in
    let call_of = g.T.Served.call_of in
    let k = c.args.call in
    let plan = plan_at c.args.place.now.cells.items k.partition c.from.result terms.plan c.index.result.now is.plan c.from.ensures c.index.ensures in
    let served = stepped key_of tells terms call_of k.pass c.in-Ok.turn k.member k.id c.deliver_and_look-pass.result.0 c.deliver_and_look-pass.result.1 is.served (c.in-Ok.ensures.plan ∙ plan) c.in-Ok.ensures.turn is.of_call c.deliver_and_look-pass.ensures in
    c.step_to.ensures terms (goes_on_to key_of tells call_of _ terms k is c.deliver_and_look-pass.result.0 c.deliver_and_look-pass.result.1 k.looked served)
