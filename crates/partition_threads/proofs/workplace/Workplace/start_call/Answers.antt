use Rattle.std.proofs.Common.{subst}
use Rattle.job_queues.specs.Roster.{roster_of}
use Rattle.partition_threads.specs.Starting.{IsAwaited}
use Rattle.partition_threads.proofs.Calling.{new_are}
use Rattle.partition_threads.proofs.Places.{stands_at}
use Rattle.partition_threads.proofs.workplace.Workplace.start_call.Goals as goal

pub submit-requires-clause-token : goal.submit-requires-clause-token
submit-requires-clause-token g c κs within = rw (c.in-Ok.ensures.work) c.requires.token

pub submit-requires-clause-job : goal.submit-requires-clause-job
submit-requires-clause-job g c κs within =
    let cells = c.args.self.now.cells.items in
    c.in-Ok.ensures.job (roster_of cells) (stands_at cells c.args.call.request.partition c.from.result c.args.call.pass.table c.index-cell.result.now c.requires.call.1.here c.from.ensures c.index-cell.ensures)

pub returns-in-Ok-submit-clause-started : goal.returns-in-Ok-submit-clause-started
returns-in-Ok-submit-clause-started g c = λ terms for.
    subst (λ t. IsAwaited t (record { parcel = c.in-Ok.parcel; end = c.in-Ok.end }))
    (new_are g.T.Stands.key_of g.T.Served.tells g.T.Served.call_of g.T.Served.fits c.args.self.now.cells.items terms c.args.call for c.from.result c.index-cell.result.now c.from.ensures c.index-cell.ensures)
    c.in-Ok.ensures.receiver
