use Rattle.replay_run.specs.Grids.{boxed}
use Rattle.running_grid.specs.Runs.{IsRunning}
use Rattle.watched_run.proofs.watch.Watch.flow_told.Given as goal

abbrev pub invariant-loop-count : goal.invariant-loop-count
invariant-loop-count g l = IsRunning (boxed (λ z. (goal.Processor-dyn g z).form z.1)) l.self.running
