use Rattle.std.proofs.Common.{subst}
use Rattle.job_queues.specs.Calls.{IsNew, IsBegun}
use Rattle.job_queues.specs.Jobs.{IsWorkOn}
use Rattle.job_queues.specs.Roster.{roster_of}
use Rattle.partition_threads.proofs.workers.run_job.Goals as goal

pub call_turn-call-requires-clause-call : goal.call_turn-call-requires-clause-call
call_turn-call-requires-clause-call g c κs within =
    let job = c.requires.job in
    (job.terms, subst (IsWorkOn g.T.Stands.key_of g.T.Served.tells g.T.Served.call_of g.T.Served.fits (roster_of c.args.place.now.cells.items) job.terms) c.in-New.is job.work)

pub answer-requires-after_bounds : goal.answer-requires-after_bounds
answer-requires-after_bounds g c κs within =
    let roster = roster_of c.args.place.now.cells.items in
    let job = c.requires.job in
    let new : IsNew g.T.Stands.key_of g.T.Served.call_of g.T.Served.fits roster job.terms c.in-New.call =
    subst (IsWorkOn g.T.Stands.key_of g.T.Served.tells g.T.Served.call_of g.T.Served.fits roster job.terms) c.in-New.is job.work in (
      roster,
      record {
        terms = job.terms;
        begun = subst (λ o. IsBegun g.T.Stands.key_of g.T.Served.tells g.T.Served.call_of roster job.terms c.call_turn-call.result.0 o) c.in-Some.is (c.call_turn-call.ensures job.terms new).begun;
        parcel = job.parcel;
        side = job.side;
      },
    )

pub go_on-requires-clause-call : goal.go_on-requires-clause-call
go_on-requires-clause-call g c κs within =
    let roster = roster_of c.args.place.now.cells.items in
    let job = c.requires.job in
    let new : IsNew g.T.Stands.key_of g.T.Served.call_of g.T.Served.fits roster job.terms c.in-New.call =
    subst (IsWorkOn g.T.Stands.key_of g.T.Served.tells g.T.Served.call_of g.T.Served.fits roster job.terms) c.in-New.is job.work in record {
      terms = job.terms;
      begun = subst (λ o. IsBegun g.T.Stands.key_of g.T.Served.tells g.T.Served.call_of roster job.terms c.call_turn-call.result.0 o) c.in-None.is (c.call_turn-call.ensures job.terms new).begun;
      parcel = job.parcel;
      side = job.side;
    }

pub returns-in-Begun : goal.returns-in-Begun
returns-in-Begun g c =
    let job = c.requires.job in record {
      terms = job.terms;
      begun = subst (IsWorkOn g.T.Stands.key_of g.T.Served.tells g.T.Served.call_of g.T.Served.fits (roster_of c.args.place.now.cells.items) job.terms) c.in-Begun.is job.work;
      parcel = job.parcel;
      side = job.side;
    }
