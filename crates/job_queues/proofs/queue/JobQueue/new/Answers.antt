use Rattle.job_queues.proofs.Queues.{starts}
use Rattle.job_queues.proofs.queue.JobQueue.new.Goals as goal

pub ruled-requires : goal.ruled-requires
ruled-requires g c = record { cap = c.requires.some; rule = starts _ }
