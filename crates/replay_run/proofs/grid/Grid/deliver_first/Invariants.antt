use Rattle.std.proofs.Common.{◌-◌, ◌≤◌}
use Rattle.call_engine.specs.Calls.{Settings}
use Rattle.replay_run.specs.Runs.{Run}
use Rattle.replay_run.specs.Grids.{boxed}
use Rattle.replay_run.specs.WorldCalls.{IsAmid}
use Rattle.replay_run.proofs.Flowing.{HasDelivered}
use Rattle.replay_run.proofs.grid.Grid.deliver_first.Given as goal

-- so many messages were delivered
abbrev pub invariant-deliveries : goal.invariant-deliveries
invariant-deliveries g l = record {
  below : l.deliveries ≤ l.most;
  delivered : (settings : Settings) (r : Run) → IsAmid (boxed (λ z. (goal.Processor-dyn g z).form z.1)) settings l.initial.self r
      → HasDelivered (boxed (λ z. (goal.Processor-dyn g z).form z.1)) settings l.self r l.partition l.deliveries l.initial.out.items l.out.items;
}

abbrev pub decreases-deliveries : goal.decreases-deliveries
decreases-deliveries g l = l.most - l.deliveries
