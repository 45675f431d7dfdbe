use Rattle.std.proofs.Common.{◌≡◌, ℕ, [], length, Some, slice_get}
use Rattle.listeners.specs.StandsFor.{StandFor}
use Rattle.listeners.specs.declared.listeners.Listeners.{Listeners}
use Rattle.replay_run.proofs.grid.nobody.Given as goal

-- each member so far has its listeners, and there are none
abbrev pub invariant-loop : goal.invariant-loop
invariant-loop l = record {
  size : length l.listeners.items ≡ l.counter;
  none : (member : ℕ) (here : Listeners) → slice_get l.listeners.items member ≡ Some here → StandFor here [];
}
