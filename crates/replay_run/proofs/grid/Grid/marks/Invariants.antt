use Rattle.std.proofs.Common.{◌≡◌, map}
use Rattle.call_engine.specs.Calls.{Settings}
use Rattle.call_engine.specs.Objects.{partition_object}
use Rattle.partition_protocol.specs.Service.{numbers_below}
use Rattle.replay_run.specs.Runs.{Run}
use Rattle.replay_run.specs.Rebalancing.{is_moving_at}
use Rattle.replay_run.specs.Grids.{boxed}
use Rattle.replay_run.specs.WorldCalls.{IsAmid}
use Rattle.replay_run.proofs.grid.Grid.marks.Given as goal

-- the partitions so far were marked
abbrev pub invariant-loop-partition : goal.invariant-loop-partition
invariant-loop-partition g l = (settings : Settings) (r : Run) → IsAmid (boxed (λ z. (goal.Processor-dyn g z).form z.1)) settings l.self r
    → l.marks.items ≡ map (is_moving_at (partition_object settings) r) (numbers_below l.partition)
