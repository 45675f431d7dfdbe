use Rattle.job_queues.specs.Roster.{roster_of}
use Rattle.partition_threads.specs.Calls.{IsHeld}
use Rattle.partition_threads.proofs.workers.go_on.Given as goal

abbrev pub invariant-loop : goal.invariant-loop
invariant-loop g l = IsHeld g.T.Stands.key_of g.T.Served.tells g.T.Served.call_of (roster_of l.place.cells.items) (record { call = l.going; parcel = l.parcel; end = l.end })
