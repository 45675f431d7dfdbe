-- What happens to a member in all partitions, as an event of each.
use Rattle.grid_base.specs.declared.calls.Request.{Request}
use Rattle.partition_world.specs.declared.event.Event.{Event}
use Rattle.partition_world.specs.declared.event.Event.TheVariants as event
use Rattle.live_grid.specs.declared.control.Fate.{Fate}
use Rattle.live_grid.specs.declared.control.Fate.TheVariants.{Crash, Detect}

abbrev pub event_in_all : Fate → Event Request
event_in_all (Crash member) = event.Crash member
event_in_all (Detect member) = event.Detect member
