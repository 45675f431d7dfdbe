-- Histories in which no operator's event was run.
use Rattle.std.specs.Prelude.{◌≡◌, ℕ, ◌%◌, List, []}
use Rattle.grid_base.specs.declared.calls.Request.{Request}
use Rattle.partition_protocol.specs.Events.{Outcome, HeldAt, ReleasedAt}
use Rattle.partition_world.specs.declared.event.Event.{Event}
use Rattle.live_grid.specs.declared.plan.GridPlan.{GridPlan}
use Rattle.live_grid.specs.Control.{controls_in}

-- calls alone were run, and what became of messages
abbrev pub IsUncontrolled : List (Event Request) → Type 0
IsUncontrolled history = controls_in history ≡ []

-- the member that leads a partition at first
abbrev pub first_leader : GridPlan → ℕ
first_leader plan = plan.partition % plan.members

-- the call was executed: its answer was given at once, or waits for the backups
abbrev pub IsExecuted : Outcome → Type 0
IsExecuted (HeldAt seen) = Unit {0}
IsExecuted (ReleasedAt seen) = Unit {0}
IsExecuted _ = ⊥
