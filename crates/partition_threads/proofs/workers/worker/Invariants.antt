use Rattle.std.proofs.Common.{◌≤◌}
use Rattle.job_queues.specs.Roster.{roster_of}
use Rattle.partition_threads.specs.Calls.{AreHeld}
use Rattle.partition_threads.specs.Workplaces.{IsTokenAt}
use Rattle.partition_threads.proofs.workers.worker.Given as goal

abbrev pub invariant-loop : goal.invariant-loop
invariant-loop g l = record {
  token : IsTokenAt l.place l.number l.queue;
  held : AreHeld g.T.Stands.key_of g.T.Served.tells g.T.Served.call_of (roster_of l.place.cells.items) l.held.items;
  risen : l.initial.queue.empty ≤ l.queue.empty;
}
