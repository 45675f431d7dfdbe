use Rattle.std.proofs.Common.{◌≡◌, ◌<◌}
use Rattle.partition_protocol.specs.Service.{numbers_below}
use Rattle.partition_world.specs.Events.{happened_of}
use Rattle.call_engine.specs.Calls.{Settings}
use Rattle.call_engine.specs.Objects.{partition_object}
use Rattle.replay_run.specs.Runs.{Run, takes_in}
use Rattle.replay_run.specs.Printing.{outcome_at}
use Rattle.replay_run.specs.Grids.{boxed}
use Rattle.replay_run.specs.WorldCalls.{IsAmid, HasGoneOnSo, event_in_all}
use Rattle.replay_run.proofs.grid.Grid.take_in_all.Given as goal

-- the event has happened in the partitions so far
abbrev pub invariant-loop-partition : goal.invariant-loop-partition
invariant-loop-partition g l = record {
  on : (settings : Settings) (r : Run) → IsAmid (boxed (λ z. (goal.Processor-dyn g z).form z.1)) settings l.initial.self r
      → HasGoneOnSo (boxed (λ z. (goal.Processor-dyn g z).form z.1)) settings l.self r (λ skips. takes_in (partition_object settings) skips r (event_in_all l.fate) (numbers_below l.partition)) l.initial.out.items l.out.items;
  outcome : (settings : Settings) (r : Run) → IsAmid (boxed (λ z. (goal.Processor-dyn g z).form z.1)) settings l.initial.self r → 0 < l.partition → happened_of l.first ≡ outcome_at (partition_object settings) r 0 (event_in_all l.fate);
}
