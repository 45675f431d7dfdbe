use Rattle.call_engine.specs.Calls.{Settings}
use Rattle.masters_world.specs.Machine.{Asks}
use Rattle.partition_protocol.specs.Events.{Detect}
use Rattle.replay_run.specs.Grids.{boxed}
use Rattle.masters_run.specs.Runs.{RuledRun, counted}
use Rattle.masters_run.specs.Grids.{Stands}
use Rattle.masters_run.proofs.Loops.{HasGoneIn}
use Rattle.masters_run.proofs.grid.RuledGrid.run_detection.Given as goal

-- it was proposed in the partitions so far
abbrev pub invariant-loop-partition : goal.invariant-loop-partition
invariant-loop-partition g l = (settings : Settings) (s : RuledRun) → Stands (boxed (λ z. (goal.Processor-dyn g z).form z.1)) settings l.fn.self s
    → HasGoneIn (boxed (λ z. (goal.Processor-dyn g z).form z.1)) settings l.self (counted s) (Asks (Detect l.member)) l.partition l.initial.out.items l.out.items
