use Rattle.std.proofs.lemmas.List.Elements.{All-push}
use Rattle.job_queues.specs.Roster.{roster_of}
use Rattle.partition_threads.specs.Calls.{IsHeld}
use Rattle.partition_threads.proofs.workers.take_job.Goals as goal

pub returns-in-Some-run_job-clause-held : goal.returns-in-Some-run_job-clause-held
returns-in-Some-run_job-clause-held g c =
    rw c.push_reserved.ensures.items (All-push (IsHeld g.T.Stands.key_of g.T.Served.tells g.T.Served.call_of (roster_of c.args.place.now.cells.items)) c.args.held.now.items c.in-Some-run_job.call c.requires.held c.in-Some-run_job.ensures)
