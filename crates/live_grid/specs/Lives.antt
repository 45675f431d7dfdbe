-- What a live world stands for.
use Rattle.std.specs.Prelude.{◌≡◌, ◌≢◌, ℕ, ◌⊎◌, List, [], map, All, Contains}
use Rattle.grid_base.specs.declared.names.CallId.{CallId}
use Rattle.grid_base.specs.declared.calls.Request.{Request}
use Rattle.grid_base.specs.Shelves.{Meaning, meaning}
use Rattle.object_store.specs.Partitions.{Partition}
use Rattle.call_engine.specs.declared.shelf.GridShelf.{GridShelf}
use Rattle.call_engine.specs.Calls.{Settings}
use Rattle.call_engine.specs.Limits.{RequestFits}
use Rattle.call_engine.specs.Shelves.{partition_shelf}
use Rattle.primary_hold.specs.declared.answer.CallAnswer.{CallAnswer}
use Rattle.partition_world.specs.declared.event.Event.{Event}
use Rattle.partition_world.specs.declared.standing_row.StandingRow.{StandingRow}
use Rattle.partition_world.specs.declared.world.World.{World}
use Rattle.partition_world.specs.Events.{event_of}
use Rattle.partition_world.specs.Recorders.{KeepsStanding}
use Rattle.partition_world.specs.Worlds.{StandsFor, IsReleased, setup_of, waiting}
use Rattle.live_grid.specs.declared.plan.GridPlan.{GridPlan}
use Rattle.live_grid.specs.declared.world.LiveWorld.{LiveWorld}
use Rattle.live_grid.specs.Plans.{settings_for, setup_for}
use Rattle.live_grid.specs.Histories.{cells}

-- a world of the grid that records no history
abbrev pub GridWorld : Type 0
GridWorld = World GridShelf StandingRow Settings Request

-- what its shelves mean, by the settings
abbrev pub grid_meaning : Settings → Meaning GridShelf Request Partition
grid_meaning = meaning partition_shelf

-- The world is that of the history, as the protocol runs it from the plan's opening state
pub record IsWorldOf (world : GridWorld) (plan : GridPlan) (history : List (Event Request)) : Type 0 where
  pub stands : StandsFor (grid_meaning (settings_for plan)) KeepsStanding RequestFits world (map event_of history)
  pub setup : setup_of world ≡ setup_for plan

-- each answer was released by then
abbrev pub AreReleased : GridPlan → List (Event Request) → List CallAnswer → Type 0
AreReleased plan history answers = All (IsReleased (cells plan history)) answers

-- The world is that of the history, and the answers that nobody has fetched were released by then
pub record LiveStands (live : LiveWorld) (plan : GridPlan) (history : List (Event Request)) : Type 0 where
  pub world : IsWorldOf live.world plan history
  pub answers : AreReleased plan history live.answers.items

-- The answer waits at the member, or was given out and waits to be fetched
abbrev pub IsThere : LiveWorld → ℕ → CallAnswer → Type 0
IsThere live member answer = Contains (waiting live.world member) answer ⊎ Contains live.answers.items answer

-- No answer of the call waits at the member, or was given out and waits to be fetched
pub record HasNoAnswer (live : LiveWorld) (member : ℕ) (id : CallId) : Type 0 where
  pub none_waits : waiting live.world member ≡ []
  pub none_kept : All (λ (answer : CallAnswer). answer.id ≢ id) live.answers.items
