use Rattle.job_queues.proofs.Queues.{learns}
use Rattle.job_queues.proofs.queue.JobQueue.is_empty.Goals as goal

pub is_empty_as-requires-clause-rule : goal.is_empty_as-requires-clause-rule
is_empty_as-requires-clause-rule g c = rw c.token.invariant.1 (learns _ _ _)
