use Rattle.std.proofs.Common.{◌≡◌}
use Rattle.std.specs.List.{filter_map}
use Rattle.call_engine.specs.Calls.{Settings}
use Rattle.call_engine.specs.Objects.{partition_object}
use Rattle.partition_protocol.specs.Service.{numbers_below}
use Rattle.replay_run.specs.Runs.{Run, known_at}
use Rattle.replay_run.specs.Grids.{boxed, Holds}
use Rattle.replay_run.proofs.grid.Grid.rows_known.Given as goal

-- the rows so far were copied
abbrev pub invariant-loop-partition : goal.invariant-loop-partition
invariant-loop-partition g l = (settings : Settings) (r : Run) → Holds (boxed (λ z. (goal.Processor-dyn g z).form z.1)) settings l.self r
    → l.rows.items ≡ filter_map (known_at (partition_object settings) r l.member) (numbers_below l.partition)
