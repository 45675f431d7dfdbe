use Rattle.job_queues.proofs.Queues.{opens}
use Rattle.job_queues.proofs.queue.JobQueue.open_for.Goals as goal

pub another-requires-clause-rule : goal.another-requires-clause-rule
another-requires-clause-rule g c = rw c.requires.first (opens _ _ g.C.RosterIs.roster)
