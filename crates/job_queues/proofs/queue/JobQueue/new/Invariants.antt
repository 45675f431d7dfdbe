use Rattle.job_queues.specs.Roster.{roster_of}
use Rattle.job_queues.proofs.queue.JobQueue.new.Given as goal

abbrev pub ghosts-open_for : goal.ghosts-open_for
ghosts-open_for g a = record { roster = roster_of a.cells.now }
