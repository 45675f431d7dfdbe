use Rattle.std.proofs.Common.{◌-◌, ◌≤◌}
use Rattle.call_engine.specs.Calls.{Settings}
use Rattle.replay_run.specs.Runs.{Run}
use Rattle.replay_run.specs.Grids.{boxed}
use Rattle.replay_run.specs.WorldCalls.{IsAmid}
use Rattle.replay_run.proofs.RebalanceLine.{HasTurned}
use Rattle.replay_run.proofs.grid.Grid.turn_on.Given as goal

-- so many turns were taken
abbrev pub invariant-turns : goal.invariant-turns
invariant-turns g l = record {
  below : l.turns ≤ 4;
  turned : (settings : Settings) (r : Run) → IsAmid (boxed (λ z. (goal.Processor-dyn g z).form z.1)) settings l.initial.self r
      → HasTurned (boxed (λ z. (goal.Processor-dyn g z).form z.1)) settings l.self r l.partition l.turns l.initial.out.items l.out.items;
}

abbrev pub decreases-turns : goal.decreases-turns
decreases-turns g l = 4 - l.turns
