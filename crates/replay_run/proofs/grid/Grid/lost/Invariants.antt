use Rattle.std.proofs.Common.{◌≡◌, ◌≤◌}
use Rattle.std.specs.Prelude.{count_by}
use Rattle.call_engine.specs.Calls.{Settings}
use Rattle.call_engine.specs.Objects.{partition_object}
use Rattle.partition_protocol.specs.Service.{numbers_below}
use Rattle.replay_run.specs.Runs.{Run}
use Rattle.replay_run.specs.Counts.{is_lost_at}
use Rattle.replay_run.specs.Grids.{boxed, Stands}
use Rattle.replay_run.proofs.grid.Grid.lost.Given as goal

-- the lost ones of the partitions so far
abbrev pub invariant-loop-partition : goal.invariant-loop-partition
invariant-loop-partition g l = record {
  counted : (settings : Settings) (r : Run) → Stands (boxed (λ z. (goal.Processor-dyn g z).form z.1)) settings l.self r
      → l.lost ≡ count_by (is_lost_at (partition_object settings) r) (numbers_below l.partition);
  few : l.lost ≤ l.partition;
}
