use Rattle.std.proofs.Common.{◌-◌, ◌≤◌}
use Rattle.call_engine.specs.Calls.{Settings}
use Rattle.replay_run.specs.Grids.{boxed}
use Rattle.masters_run.specs.Runs.{RuledRun}
use Rattle.masters_run.specs.Steps.{IsAmid}
use Rattle.masters_run.proofs.HandingOver.{HasHandedOver}
use Rattle.masters_run.proofs.grid.RuledGrid.deliver_to_masters.Given as goal

-- so many messages were handed over
abbrev pub invariant-loop-deliveries : goal.invariant-loop-deliveries
invariant-loop-deliveries g l = record {
  below : l.deliveries ≤ l.most;
  handed : (settings : Settings) (s : RuledRun) → IsAmid (boxed (λ z. (goal.Processor-dyn g z).form z.1)) settings l.initial.self s
      → HasHandedOver (boxed (λ z. (goal.Processor-dyn g z).form z.1)) settings l.self s l.partition l.deliveries l.initial.out.items l.out.items;
}

abbrev pub decreases-loop-deliveries : goal.decreases-loop-deliveries
decreases-loop-deliveries g l = l.most - l.deliveries
