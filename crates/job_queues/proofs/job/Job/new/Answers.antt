use Rattle.std.proofs.Common.{rules, ap, sym, refl, ◌∙◌, Some}
use Rattle.job_queues.specs.Terms.{terms_for}
use Rattle.job_queues.proofs.job.Job.new.Goals as goal

pub returns-clause-job : goal.returns-clause-job
returns-clause-job g c = λ roster at. record {
  terms = terms_for g.T.Served.call_of c.args.cell.now c.args.call.pass c.args.call.member c.args.call.request c.args.call.now;
  work = record {
    here = at.table ∙ ap Some (sym c.requires.cell);
    plan = at.plan;
    first = refl;
    event = refl;
    named = c.requires.named;
    unused = c.requires.unused;
    within = c.requires.within;
  };
  parcel = search rules;
  side = ap (λ e. e.side) c.in-Ok.ensures.sender;
}
