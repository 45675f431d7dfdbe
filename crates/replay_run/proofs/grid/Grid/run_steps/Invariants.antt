use Rattle.std.proofs.Common.{take}
use Rattle.call_engine.specs.Calls.{Settings}
use Rattle.replay_run.specs.Runs.{Run}
use Rattle.replay_run.specs.Grids.{boxed}
use Rattle.replay_run.specs.WorldCalls.{IsAmid, HasStepped}
use Rattle.replay_run.proofs.grid.Grid.run_steps.Given as goal

-- the steps so far were run
abbrev pub invariant-loop-place : goal.invariant-loop-place
invariant-loop-place g l = (settings : Settings) (r : Run) → IsAmid (boxed (λ z. (goal.Processor-dyn g z).form z.1)) settings l.initial.self r
    → HasStepped (boxed (λ z. (goal.Processor-dyn g z).form z.1)) settings l.self r (take l.place l.steps) l.initial.out.items l.out.items
