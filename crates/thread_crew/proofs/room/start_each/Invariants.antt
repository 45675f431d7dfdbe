use Rattle.std.proofs.Common.{◌≤◌, vec_capacity}
use Rattle.thread_crew.proofs.Rooms.{HaveNumbers}
use Rattle.thread_crew.proofs.room.start_each.Given as goal

abbrev pub invariant-loop-number : goal.invariant-loop-number
invariant-loop-number g l = HaveNumbers l.number l.made.items × (l.fn.threads ≤ vec_capacity l.made)
