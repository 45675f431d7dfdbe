use Rattle.std.proofs.Common.{◌≡◌, ℕ, ◌<◌, None}
use Rattle.call_engine.specs.Calls.{Settings}
use Rattle.call_engine.specs.Objects.{partition_object}
use Rattle.replay_run.specs.Runs.{world_at}
use Rattle.replay_run.specs.Grids.{boxed}
use Rattle.masters_run.specs.Runs.{RuledRun, member_reached}
use Rattle.masters_run.specs.Steps.{IsAmid}
use Rattle.masters_run.proofs.grid.RuledGrid.link_to_member.Given as goal

-- no message of the ends so far is in flight to a member
abbrev pub invariant-loop-from : goal.invariant-loop-from
invariant-loop-from g l = (settings : Settings) (s : RuledRun) → IsAmid (boxed (λ z. (goal.Processor-dyn g z).form z.1)) settings l.self s → (from : ℕ) → from < l.from → member_reached (world_at (partition_object settings) s.run l.partition) from ≡ None
