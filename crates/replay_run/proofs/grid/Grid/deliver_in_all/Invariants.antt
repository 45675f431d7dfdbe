use Rattle.std.proofs.Common.{◌*◌, ◌≤◌}
use Rattle.partition_protocol.specs.Service.{numbers_below}
use Rattle.call_engine.specs.Calls.{Settings}
use Rattle.call_engine.specs.Objects.{partition_object}
use Rattle.replay_run.specs.Runs.{Run, flowed_in}
use Rattle.replay_run.specs.Grids.{boxed}
use Rattle.replay_run.specs.WorldCalls.{IsAmid, HasFlowed}
use Rattle.replay_run.proofs.grid.Grid.deliver_in_all.Given as goal

-- the partitions so far have flowed
abbrev pub invariant-loop-partition : goal.invariant-loop-partition
invariant-loop-partition g l = record {
  few : l.deliveries ≤ 1000 * l.partition;
  flowed : (settings : Settings) (r : Run) → IsAmid (boxed (λ z. (goal.Processor-dyn g z).form z.1)) settings l.initial.self r
      → HasFlowed (boxed (λ z. (goal.Processor-dyn g z).form z.1)) settings l.self r (λ skips. flowed_in (partition_object settings) skips r l.most (numbers_below l.partition)) l.deliveries l.initial.out.items l.out.items;
}
