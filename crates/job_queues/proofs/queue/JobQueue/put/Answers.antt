use Rattle.std.proofs.Common.{sym, subst}
use Rattle.job_queues.specs.Jobs.{IsJobFor, WasFull}
use Rattle.job_queues.proofs.Queues.{pushes, learns}
use Rattle.job_queues.proofs.queue.JobQueue.put.Goals as goal

pub push_as-requires-clause-rule : goal.push_as-requires-clause-rule
push_as-requires-clause-rule g c =
    let job = subst (λ t. IsJobFor g.T.Stands.key_of g.T.Served.tells g.T.Served.call_of g.T.Served.fits t.roster c.args.job) (sym c.token.view_is) c.requires.job in
    (rw c.token.invariant.1 (pushes _ _ _ _ _ job), rw c.token.invariant.1 (learns _ _ _))

pub returns-in-Err-clause-full : goal.returns-in-Err-clause-full
returns-in-Err-clause-full g c =
    subst (λ t. WasFull g.T.Stands.key_of g.T.Served.tells g.T.Served.call_of g.T.Served.fits t.roster c.args.self.now) c.token.view_is c.in-Err.ensures.rule.2
