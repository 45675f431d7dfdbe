use Rattle.replay_run.specs.Grids.{boxed}
use Rattle.running_grid.specs.Runs.{IsRunning}
use Rattle.watched_run.proofs.watch.Watch.flow_in_all.Given as goal

abbrev pub invariant-loop-partition : goal.invariant-loop-partition
invariant-loop-partition g l = IsRunning (boxed (λ z. (goal.Processor-dyn g z).form z.1)) l.self.running
