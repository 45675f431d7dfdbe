use Rattle.std.proofs.Common.{subst, sym}
use Rattle.job_queues.specs.Roster.{roster_of}
use Rattle.job_queues.specs.Calls.{IsBegun}
use Rattle.partition_threads.specs.Starting.{IsAwaited}
use Rattle.partition_threads.proofs.Calling.{noted_are}
use Rattle.partition_threads.proofs.workplace.Workplace.hand_over.Goals as goal

pub submit-requires-clause-token : goal.submit-requires-clause-token
submit-requires-clause-token g c κs within = rw (c.in-Ok.ensures.work) c.requires.token

pub submit-requires-clause-job : goal.submit-requires-clause-job
submit-requires-clause-job g c κs within =
    let cells = c.args.self.now.cells.items in let terms = c.requires.call.0 in let begun = c.requires.call.1 in
    c.in-Ok.ensures.job (roster_of cells)
    (subst (λ t. IsBegun g.T.Stands.key_of g.T.Served.tells g.T.Served.call_of (roster_of cells) t c.args.call _)
    (sym (noted_are g.T.Stands.key_of g.T.Served.tells g.T.Served.call_of cells terms c.args.call _ begun c.from.result c.index-cell.result.now c.from.ensures c.index-cell.ensures)) begun)

pub returns-in-Ok-submit-clause-came : goal.returns-in-Ok-submit-clause-came
returns-in-Ok-submit-clause-came g c = λ terms begun.
    subst (λ t. IsAwaited t (record { parcel = c.in-Ok.parcel; end = c.in-Ok.end }))
    (noted_are g.T.Stands.key_of g.T.Served.tells g.T.Served.call_of c.args.self.now.cells.items terms c.args.call _ begun c.from.result c.index-cell.result.now c.from.ensures c.index-cell.ensures)
    c.in-Ok.ensures.receiver
