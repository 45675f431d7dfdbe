use Rattle.std.proofs.Common.{rules, ap}
use Rattle.job_queues.specs.Terms.{terms_noted}
use Rattle.job_queues.proofs.job.Job.begun.Goals as goal

pub returns-clause-job : goal.returns-clause-job
returns-clause-job g c = λ roster begun. record {
  terms = terms_noted c.args.cell.now c.args.call;
  work = begun;
  parcel = search rules;
  side = ap (λ e. e.side) c.in-Ok.ensures.sender;
}
