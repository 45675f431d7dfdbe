use Rattle.std.proofs.Common.{None}
use Rattle.job_queues.specs.Calls.{IsBegun}
use Rattle.job_queues.specs.Roster.{roster_of}
use Rattle.job_queues.specs.Terms.{Terms}
use Rattle.partition_threads.specs.Steps.{IsRun}
use Rattle.partition_threads.proofs.making.deliver_at_once.Given as goal

abbrev pub invariant-loop : goal.invariant-loop
invariant-loop g l = (terms : Terms g.row.T-Plan.Denot g.row.T-Event.Denot) → IsBegun g.T.Stands.key_of g.T.Served.tells g.T.Served.call_of (roster_of l.place.cells.items) terms l.fn.call None
    → IsRun g.T.Stands.key_of g.T.Served.tells g.T.Served.call_of (roster_of l.place.cells.items) terms l.fn.call.member l.fn.call.partition l.fn.call.id l.going None
