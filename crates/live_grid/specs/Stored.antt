-- What a partition's newest row has of an object, and a turn in which it is looked at.
use Rattle.std.specs.Prelude.{◌≡◌, ℕ, List, if◌then◌else◌, Option, Some, None, Result, IfOk, slice_get, slice_set}
use Rattle.std.specs.Option.{option_map, option_and_then}
use Rattle.grid_base.specs.declared.names.ObjectKey.{ObjectKey}
use Rattle.grid_base.specs.declared.calls.Request.{Request}
use Rattle.hand_cell.specs.Told.{Told}
use Rattle.object_store.specs.Records.{Record, is_nothing}
use Rattle.object_store.specs.Records as kept
use Rattle.object_store.specs.Partitions.{record_at}
use Rattle.call_engine.specs.Objects.{partition_object}
use Rattle.partition_table.specs.Rows.{first_of}
use Rattle.partition_threads.specs.Turns.{Follows}
use Rattle.partition_world.specs.ContentsOf.{contents_at}
use Rattle.partition_world.specs.declared.event.Event.{Event}
use Rattle.live_grid.specs.declared.grid.GridPass.{GridPass}
use Rattle.live_grid.specs.declared.grid.LiveGrid.{LiveGrid}
use Rattle.live_grid.specs.declared.copies.Record.{Record as Copy}
use Rattle.live_grid.specs.declared.copies.Record.TheVariants as copy
use Rattle.live_grid.specs.declared.plan.GridPlan.{GridPlan}
use Rattle.live_grid.specs.declared.world.LiveWorld.{LiveWorld}
use Rattle.live_grid.specs.Control.{cells_of}
use Rattle.live_grid.specs.Histories.{cells, live_key}
use Rattle.live_grid.specs.Lives.{LiveStands}
use Rattle.live_grid.specs.Plans.{settings_for}

-- what is kept of an object, where it is something
abbrev pub something_of : Record → Option Record
something_of kept = if is_nothing kept then None else Some kept

-- what a copy was made of
abbrev pub record_of : Copy → Record
record_of (copy.Map entry) = kept.Map entry
record_of (copy.Queue items) = kept.Queue items

-- what a member has of an object after a history, where that is something
abbrev pub stored_at : GridPlan → List (Event Request) → ObjectKey → ℕ → Option Record
stored_at plan history name member = something_of (record_at (contents_at (partition_object (settings_for plan)) (cells plan history) member) name)

-- what the first member of the newest row has of it. A lost row has no members
abbrev pub stored_in : GridPlan → List (Event Request) → ObjectKey → Option Record
stored_in plan history name = option_and_then (stored_at plan history name) (first_of (cells plan history).service.row.members)

-- One turn has looked: it ran no event, and nothing else that is new to the pass has one of its names. A world stands for what the pass
-- has seen then, and this was stored in it of the object; for want of memory that isn't told
pub record HasLooked {Error : Type 0} (plan : GridPlan) (name : ObjectKey) (was is : Told (Event Request)) (found : Result (Option Copy) Error) : Type 0 where
  pub follows : Follows live_key was is
  pub live : LiveWorld
  pub stands : LiveStands live plan is.seen
  pub stored : IfOk found (λ copy. option_map record_of copy ≡ stored_in plan is.seen name)

-- One turn at the partition has looked, and the other passes are as they were
pub record HasLookedAt {Error : Type 0} (grid : LiveGrid) (name : ObjectKey) (old new : GridPass) (partition : ℕ) (found : Result (Option Copy) Error) : Type 0 where
  pub plan : GridPlan
  pub was : Told (Event Request)
  pub is : Told (Event Request)
  pub plan_there : slice_get (cells_of grid).plans partition ≡ Some plan
  pub was_there : slice_get old.passes.items partition ≡ Some was
  pub passes : new.passes.items ≡ slice_set old.passes.items partition is
  pub tokens : new.tokens ≡ old.tokens
  pub here : HasLooked plan name was is found
