use Rattle.std.proofs.Common.{◌≡◌, map}
use Rattle.call_engine.specs.Calls.{Settings}
use Rattle.call_engine.specs.Objects.{partition_object}
use Rattle.partition_protocol.specs.Service.{numbers_below}
use Rattle.replay_run.specs.Runs.{Run}
use Rattle.replay_run.specs.Rebalancing.{service_at}
use Rattle.replay_run.specs.Grids.{boxed}
use Rattle.replay_run.specs.WorldCalls.{IsAmid}
use Rattle.replay_run.proofs.grid.Grid.rows.Given as goal

-- the rows so far were copied
abbrev pub invariant-loop-partition : goal.invariant-loop-partition
invariant-loop-partition g l = (settings : Settings) (r : Run) → IsAmid (boxed (λ z. (goal.Processor-dyn g z).form z.1)) settings l.self r
    → l.rows.items ≡ map (λ p. (service_at (partition_object settings) r p).row) (numbers_below l.partition)
