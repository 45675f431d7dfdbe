use Rattle.std.proofs.Common.{◌≡◌, ◌≤◌, ◌++◌, map, take}
use Rattle.partition_protocol.specs.World.{trail}
use Rattle.call_engine.specs.Calls.{Settings}
use Rattle.call_engine.specs.Objects.{partition_object}
use Rattle.partition_world.specs.RecordedEntries.{entry_of}
use Rattle.replay_run.specs.Runs.{Run, world_at}
use Rattle.replay_run.specs.PrintedEntries.{resets_in}
use Rattle.replay_run.specs.Grids.{boxed, Stands}
use Rattle.replay_run.proofs.HistoryTexts.{text_below}
use Rattle.replay_run.proofs.grid.Grid.push_entries.Given as goal

-- the entries so far were printed, and their resets counted
abbrev pub invariant-loop-place : goal.invariant-loop-place
invariant-loop-place g l = (l.resets ≤ l.place) × ((settings : Settings) (r : Run) → Stands (boxed (λ z. (goal.Processor-dyn g z).form z.1)) settings l.self r → map entry_of l.history ≡ trail (world_at (partition_object settings) r l.partition)
    → (l.resets ≡ resets_in (take l.place (trail (world_at (partition_object settings) r l.partition)))) × (l.out.items ≡ l.initial.out.items ++ text_below r l.partition (trail (world_at (partition_object settings) r l.partition)) l.place))
