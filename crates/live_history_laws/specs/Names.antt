-- When no two calls of a live partition's history have one name.
use Rattle.std.specs.Prelude.{◌≡◌, List, ◌∷◌, ◌++◌, map}
use Rattle.grid_base.specs.declared.calls.Request.{Request}
use Rattle.hand_cell.specs.Names.{IsNew}
use Rattle.partition_protocol.specs.Arrivals.{NamedOnce, arrivals, name}
use Rattle.partition_world.specs.declared.event.Event.{Event}
use Rattle.partition_world.specs.Events.{event_of}
use Rattle.live_grid.specs.Histories.{live_key}

-- no two calls of the history have one name
abbrev pub AreNamedOnce : List (Event Request) → Type 0
AreNamedOnce history = NamedOnce (map name (arrivals (map event_of history)))

-- each event was new as it came: a call's key is of no event before it
abbrev pub AreNew : List (Event Request) → Type 0
AreNew history = (before after : List (Event Request)) (e : Event Request) → history ≡ before ++ e ∷ after → IsNew live_key before e
