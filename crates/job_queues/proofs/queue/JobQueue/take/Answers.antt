use Rattle.job_queues.proofs.Queues.{pops, learns}
use Rattle.job_queues.proofs.queue.JobQueue.take.Goals as goal

pub pop_as-requires-clause-rule : goal.pop_as-requires-clause-rule
pop_as-requires-clause-rule g c = (rw c.token.invariant.1 (pops _ _ _), rw c.token.invariant.1 (learns _ _ _))
