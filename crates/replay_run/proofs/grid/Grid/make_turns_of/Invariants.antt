use Rattle.std.proofs.Common.{None}
use Rattle.partition_protocol.specs.Service.{numbers_below}
use Rattle.call_engine.specs.Calls.{Settings}
use Rattle.call_engine.specs.Objects.{partition_object}
use Rattle.replay_run.specs.Runs.{Run, served_in}
use Rattle.replay_run.specs.Grids.{boxed}
use Rattle.replay_run.specs.WaiterCalls.{IsBetween, HasServed}
use Rattle.replay_run.proofs.grid.Grid.make_turns_of.Given as goal

-- The member's lists of the partitions so far had their turns.
abbrev pub invariant-loop-partition : goal.invariant-loop-partition
invariant-loop-partition g l = (settings : Settings) (r : Run) → IsBetween (boxed (λ z. (goal.Processor-dyn g z).form z.1)) settings l.initial.self r None
    → HasServed (boxed (λ z. (goal.Processor-dyn g z).form z.1)) settings l.initial.self l.self r None (λ skips. served_in (partition_object settings) skips r l.member (numbers_below l.partition)) l.initial.out.items l.out.items
