-- A session of a new grid.
use Rattle.std.specs.Prelude.{◌≡◌, ℕ, ◌+◌, ◌*◌, List, [], length, Some, slice_get}
use Rattle.grid_base.specs.declared.calls.Request.{Request}
use Rattle.job_queues.specs.Tokens.{Token}
use Rattle.live_grid.specs.declared.plan.GridPlan.{GridPlan}
use Rattle.live_grid.specs.declared.world.LiveWorld.{LiveWorld}
use Rattle.partition_threads.specs.declared.workplace.Workplace.{Workplace}
use Rattle.partition_threads.specs.Workplaces.{IsTokenAt}
use Rattle.partition_world.specs.declared.event.Event.{Event}
use Rattle.partition_world.specs.declared.event.Happened.{Happened}

-- nothing was seen of a partition
abbrev pub none_seen : ℕ → List (Event Request)
none_seen partition = []

-- four tokens, one of each of the member's workers
pub record AreTokensOfMember (place : Workplace LiveWorld GridPlan (Event Request) Happened) (member : ℕ) (tokens : List (Token GridPlan)) : Type 0 where
  pub four : length tokens ≡ 4
  pub each : (thread : ℕ) (token : Token GridPlan) → slice_get tokens thread ≡ Some token → IsTokenAt place (4 * member + thread) token
