use Rattle.std.proofs.Common.{◌≡◌, filter}
use Rattle.call_engine.specs.Calls.{Settings}
use Rattle.call_engine.specs.Objects.{partition_object}
use Rattle.partition_protocol.specs.Service.{numbers_below}
use Rattle.replay_run.specs.Runs.{Run}
use Rattle.replay_run.specs.Rebalancing.{is_detected_in}
use Rattle.replay_run.specs.Grids.{boxed}
use Rattle.replay_run.specs.WorldCalls.{IsAmid}
use Rattle.replay_run.proofs.grid.Grid.detected.Given as goal

-- the detected ones of the members so far
abbrev pub invariant-loop-member : goal.invariant-loop-member
invariant-loop-member g l = (settings : Settings) (r : Run) → IsAmid (boxed (λ z. (goal.Processor-dyn g z).form z.1)) settings l.self r
    → l.detected.items ≡ filter (is_detected_in (partition_object settings) r) (numbers_below l.member)
