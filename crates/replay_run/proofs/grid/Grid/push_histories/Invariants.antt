use Rattle.std.proofs.Common.{◌≡◌, ◌++◌}
use Rattle.call_engine.specs.Calls.{Settings}
use Rattle.call_engine.specs.Objects.{partition_object}
use Rattle.replay_run.specs.Runs.{Run}
use Rattle.replay_run.specs.Grids.{boxed, Stands}
use Rattle.replay_run.proofs.HistoryTexts.{texts_below}
use Rattle.replay_run.proofs.grid.Grid.push_histories.Given as goal

-- the histories so far were printed
abbrev pub invariant-loop-partition : goal.invariant-loop-partition
invariant-loop-partition g l = (settings : Settings) (r : Run) → Stands (boxed (λ z. (goal.Processor-dyn g z).form z.1)) settings l.self r → l.out.items ≡ l.initial.out.items ++ texts_below (partition_object settings) r l.partition
