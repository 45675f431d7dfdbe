use Rattle.std.proofs.Common.{◌*◌, ◌≤◌}
use Rattle.call_engine.specs.Calls.{Settings}
use Rattle.replay_run.specs.Grids.{boxed}
use Rattle.masters_run.specs.Runs.{RuledRun, counted}
use Rattle.masters_run.specs.Grids.{Stands}
use Rattle.masters_run.proofs.Delivering.{HasFlowedIn}
use Rattle.masters_run.proofs.grid.RuledGrid.run_flow_all.Given as goal

-- so many messages were delivered in the partitions so far
abbrev pub invariant-loop-partition : goal.invariant-loop-partition
invariant-loop-partition g l = record {
  below : l.deliveries ≤ 1000 * l.partition;
  flowed : (settings : Settings) (s : RuledRun) → Stands (boxed (λ z. (goal.Processor-dyn g z).form z.1)) settings l.fn.self s
      → HasFlowedIn (boxed (λ z. (goal.Processor-dyn g z).form z.1)) settings l.self (counted s) l.most l.partition l.deliveries l.initial.messages.items l.messages.items;
}
