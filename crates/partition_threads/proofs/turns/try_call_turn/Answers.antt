use Rattle.std.proofs.Common.{subst}
use Rattle.hand_cell.specs.Calls.{plan_of}
use Rattle.partition_threads.specs.Turns.{HasBegun}
use Rattle.partition_threads.proofs.Calling.{run_from}
use Rattle.partition_threads.proofs.turns.try_call_turn.Goals as goal

pub returns-in-Ok-clause-begun : goal.returns-in-Ok-clause-begun
returns-in-Ok-clause-begun g c terms for =
    let key_of = g.T.Stands.key_of in
    let tells = g.T.Served.tells in
    let call_of = g.T.Served.call_of in
    let j = c.args.call in
    let cell = c.index.result.now in
    let k = c.begin-begun.result.0 in
    let o = c.begin-begun.result.1 in
    run_from key_of tells call_of g.T.Served.fits c.args.place.now.cells.items terms j for c.from.result cell c.from.ensures c.index.ensures k o
    (subst (λ q. HasBegun key_of tells call_of (plan_of cell) q j.member j.request j.now k o) c.of-first.ensures
    (subst (λ p. HasBegun key_of tells call_of p c.of-first.result.value j.member j.request j.now k o) c.in-Ok.ensures.plan c.begin-begun.ensures))
