use Rattle.std.proofs.Common.{◌≡◌, ◌<◌, [], ◌∷◌}
use Rattle.call_engine.specs.Calls.{Settings}
use Rattle.call_engine.specs.Objects.{partition_object}
use Rattle.masters_world.specs.Machine.{Told, asked_by, masters_say}
use Rattle.master_log.specs.Outcomes.{done_if}
use Rattle.replay_run.specs.Grids.{boxed}
use Rattle.masters_run.specs.Runs.{RuledRun, masters_at, ruled_at, counted}
use Rattle.masters_run.specs.Grids.{Stands}
use Rattle.masters_run.proofs.Loops.{HasGoneIn}
use Rattle.masters_run.proofs.grid.RuledGrid.run_told.Given as goal

-- the member was told in the partitions so far, and the first of them answered so
abbrev pub invariant-loop-partition : goal.invariant-loop-partition
invariant-loop-partition g l = record {
  on : (settings : Settings) (s : RuledRun) → Stands (boxed (λ z. (goal.Processor-dyn g z).form z.1)) settings l.fn.self s
      → HasGoneIn (boxed (λ z. (goal.Processor-dyn g z).form z.1)) settings l.self (counted s) (Told l.member l.crashed) l.partition l.initial.followed.items l.followed.items;
  first : (settings : Settings) (s : RuledRun) → Stands (boxed (λ z. (goal.Processor-dyn g z).form z.1)) settings l.fn.self s → 0 < l.partition
      → masters_say (masters_at s 0) (asked_by (ruled_at (partition_object settings) s 0) (Told l.member l.crashed)) ≡ done_if l.done ∷ [];
}
