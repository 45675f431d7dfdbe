use Rattle.std.proofs.Common.{◌≡◌, ℕ, ◌<◌, length}
use Rattle.call_engine.specs.declared.env.GridEnv.{GridEnv}
use Rattle.call_engine.specs.Env.{settings_of}
use Rattle.replay_run.specs.Runs.{begun}
use Rattle.replay_run.specs.Grids.{HasWorld}
use Rattle.replay_run.proofs.grid.Grid.new.Given as goal

-- each partition so far has its world, in every environment
abbrev pub invariant-loop-partition : goal.invariant-loop-partition
invariant-loop-partition g l = record {
  size : length l.worlds.items ≡ l.partition;
  worlds : (env : GridEnv _ _) (p : ℕ) → p < l.partition → HasWorld (settings_of (λ b. (goal.Processor-dyn g (b.vtable, b.value)).form b.value) env) l.worlds.items (begun l.members l.backups) p;
}
