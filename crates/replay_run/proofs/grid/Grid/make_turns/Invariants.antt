use Rattle.std.proofs.Common.{ℕ, length}
use Rattle.call_engine.specs.Calls.{Settings}
use Rattle.wait_sets.specs.Lists.{list_at}
use Rattle.replay_run.specs.Runs.{Run}
use Rattle.replay_run.specs.Grids.{boxed}
use Rattle.replay_run.specs.WaiterCalls.{IsBetween}
use Rattle.replay_run.proofs.Serving.{HasTurned}
use Rattle.replay_run.proofs.grid.Grid.make_turns.Given as goal

-- So many turns were made.
abbrev pub invariant-loop-turn : goal.invariant-loop-turn
invariant-loop-turn g l = (settings : Settings) (r : Run) → IsBetween (boxed (λ z. (goal.Processor-dyn g z).form z.1)) settings l.initial.self r l.own
    → (number : ℕ) × HasTurned (boxed (λ z. (goal.Processor-dyn g z).form z.1)) settings l.initial.self l.self r l.own l.at.partition l.at.member number l.initial.out.items l.out.items

-- Each leaves one less in the list.
abbrev pub decreases-loop-turn : goal.decreases-loop-turn
decreases-loop-turn g l = length (list_at l.self.waiters l.at.member l.at.partition)
