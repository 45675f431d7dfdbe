use Rattle.std.proofs.Common.{subst, sym}
use Rattle.job_queues.specs.Jobs.{IsJobFor}
use Rattle.partition_threads.proofs.workplace.Workplace.submit.Goals as goal

pub put-put-requires-clause-job : goal.put-put-requires-clause-job
put-put-requires-clause-job g c κs within = subst (λ r. IsJobFor g.T.Stands.key_of g.T.Served.tells g.T.Served.call_of g.T.Served.fits r c.args.job) (sym c.requires.token.roster) c.requires.job
