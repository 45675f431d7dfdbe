use Rattle.std.proofs.Common.{◌≡◌, ◌++◌, take, map}
use Rattle.line_told.specs.declared.told.Told.TheVariants as told
use Rattle.replay_run.proofs.rebalancing.tell_steps.Given as goal

-- the steps so far were told
abbrev pub invariant-loop-step : goal.invariant-loop-step
invariant-loop-step l = l.out.items ≡ l.initial.out.items ++ map told.Step (take l.step-index l.steps)
