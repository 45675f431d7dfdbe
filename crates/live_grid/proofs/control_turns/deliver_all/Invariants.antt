use Rattle.std.proofs.Common.{◌≡◌, Some, slice_get}
use Rattle.job_queues.specs.Roster.{roster_of}
use Rattle.partition_threads.specs.Turns.{Follows}
use Rattle.live_grid.specs.Histories.{live_key}
use Rattle.live_grid.proofs.control_turns.deliver_all.Given as goal

abbrev pub invariant-loop : goal.invariant-loop
invariant-loop g l = record {
  here : slice_get (roster_of l.place.cells.items).tables l.partition ≡ Some l.going.table;
  follows : Follows live_key l.fn.pass l.going;
}
