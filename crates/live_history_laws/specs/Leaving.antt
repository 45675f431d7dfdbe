-- What an object's history leaves of it, and when that is what is stored of it.
use Rattle.std.specs.Prelude.{◌≡◌, ℕ, ◌≤◌, List, Option, Some}
use Rattle.grid_base.specs.declared.names.ObjectKey.{ObjectKey}
use Rattle.grid_base.specs.declared.calls.Request.{Request}
use Rattle.object_store.specs.Records.{Record, nothing_of}
use Rattle.call_engine.specs.Objects.{one_object}
use Rattle.partition_table.specs.Rows.{first_of}
use Rattle.partition_protocol.specs.History.{state_after}
use Rattle.partition_world.specs.ContentsOf.{pair_at}
use Rattle.partition_world.specs.declared.event.Event.{Event}
use Rattle.live_grid.specs.declared.plan.GridPlan.{GridPlan}
use Rattle.live_grid.specs.Plans.{settings_for}
use Rattle.live_grid.specs.Histories.{cells}
use Rattle.live_grid.specs.Stored.{something_of}
use Rattle.live_history_laws.specs.Entries.{object_trail}

-- what the object's own history leaves of it, where that is something
abbrev pub left_of : GridPlan → List (Event Request) → ObjectKey → Option Record
left_of plan history name = something_of (state_after (one_object (settings_for plan) name) (nothing_of name) (object_trail plan history name))

-- The first member of the newest row has taken a row that was made since the last reopening
pub record HasBegun (plan : GridPlan) (history : List (Event Request)) (first : ℕ) : Type 0 where
  pub leads : first_of (cells plan history).service.row.members ≡ Some first
  pub since : (cells plan history).service.row.reset ≤ (pair_at (cells plan history) first).version
