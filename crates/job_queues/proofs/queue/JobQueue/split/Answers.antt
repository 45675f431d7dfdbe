use Rattle.job_queues.proofs.Queues.{splits}
use Rattle.job_queues.proofs.queue.JobQueue.split.Goals as goal

pub another-requires-clause-rule : goal.another-requires-clause-rule
another-requires-clause-rule g c = rw c.token.invariant.1 (splits _ _ _)
