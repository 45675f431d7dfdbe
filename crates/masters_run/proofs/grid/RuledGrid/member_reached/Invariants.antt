use Rattle.std.proofs.Common.{◌≡◌, ℕ, ◌<◌, false}
use Rattle.call_engine.specs.Calls.{Settings}
use Rattle.call_engine.specs.Objects.{partition_object}
use Rattle.replay_run.specs.Runs.{world_at}
use Rattle.replay_run.specs.Grids.{boxed}
use Rattle.masters_run.specs.Runs.{RuledRun, is_reached}
use Rattle.masters_run.specs.Steps.{IsAmid}
use Rattle.masters_run.proofs.grid.RuledGrid.member_reached.Given as goal

-- no message is in flight to the members so far
abbrev pub invariant-loop-to : goal.invariant-loop-to
invariant-loop-to g l = (settings : Settings) (s : RuledRun) → IsAmid (boxed (λ z. (goal.Processor-dyn g z).form z.1)) settings l.self s → (to : ℕ) → to < l.to → is_reached (world_at (partition_object settings) s.run l.partition) l.from to ≡ false
