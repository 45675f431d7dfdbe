use Rattle.std.proofs.Common.{◌∙◌}
use Rattle.partition_threads.proofs.Calling.{goes_on_to}
use Rattle.partition_threads.proofs.Places.{plan_at}
use Rattle.partition_threads.proofs.Serving.{stepped}
use Rattle.partition_threads.proofs.turns.delivery_turn.Goals as goal

pub returns : goal.returns
returns g c terms is =
    let key_of = g.T.Stands.key_of in
    let tells = g.T.Served.tells in
    let call_of = g.T.Served.call_of in
    let k = c.args.call in
    let plan = plan_at c.args.place.now.cells.items k.partition c.from.result terms.plan c.index.result.now is.plan c.from.ensures c.index.ensures in
    let served = stepped key_of tells terms call_of k.pass c.enter-turn.result k.member k.id c.deliver_and_look-pass.result.0 c.deliver_and_look-pass.result.1 is.served (c.enter-turn.ensures.plan ∙ plan) c.enter-turn.ensures.turn is.of_call c.deliver_and_look-pass.ensures in
    c.step_to.ensures terms (goes_on_to key_of tells call_of _ terms k is c.deliver_and_look-pass.result.0 c.deliver_and_look-pass.result.1 k.looked served)
