-- What a plan and a history say: the protocol's world, and what an event comes to.
use Rattle.std.specs.Prelude.{ℕ, List, map, Option}
use Rattle.std.specs.Option.{option_map}
use Rattle.grid_base.specs.declared.calls.Request.{Request}
use Rattle.hand_cell.specs.declared.names.Key.{Key}
use Rattle.hand_cell.specs.declared.names.Key.TheVariants as key
use Rattle.link_net.specs.declared.link.Link.{Link}
use Rattle.call_engine.specs.Objects.{partition_object}
use Rattle.partition_protocol.specs.World.{World as Machine, start}
use Rattle.partition_protocol.specs.Events.{Outcome, run, happens}
use Rattle.partition_world.specs.declared.event.Event.{Event}
use Rattle.partition_world.specs.declared.event.Event.TheVariants as event
use Rattle.partition_world.specs.Events.{event_of}
use Rattle.partition_world.specs.LinkOrder.{next_link}
use Rattle.live_grid.specs.declared.plan.GridPlan.{GridPlan}
use Rattle.live_grid.specs.Plans.{settings_for, setup_for}

-- a call is known by its name, and messages come and go without one
abbrev pub live_key : Event Request → Key
live_key (event.Call member id call now) = key.Call id
live_key (event.Deliver from to place) = key.Free
live_key (event.Lose from to place) = key.Free
live_key (event.Repeat from to place) = key.Free
live_key _ = key.Control

-- the event of a request that reaches a member at a moment
abbrev pub live_call : ℕ → Request → ℕ → Event Request
live_call member request now = event.Call member request.id request now

-- the cells of the partition: the protocol's run of the history, from the plan's opening state
abbrev pub cells : GridPlan → List (Event Request) → Machine Request
cells plan history = let s = setup_for plan in run (partition_object (settings_for plan)) (start s.partition s.members s.backups) (map event_of history)

-- what the protocol says of an event after a history
abbrev pub outcome_after : GridPlan → List (Event Request) → Event Request → Outcome
outcome_after plan history e = (happens (partition_object (settings_for plan)) (cells plan history) (event_of e)).outcome

-- the first message of a link is handed over
abbrev pub delivery_on : Link → Event Request
delivery_on link = event.Deliver link.from link.to 0

-- the next delivery: on the first link that has a message
abbrev pub next_delivery : GridPlan → List (Event Request) → Option (Event Request)
next_delivery plan history = option_map delivery_on (next_link (cells plan history))
