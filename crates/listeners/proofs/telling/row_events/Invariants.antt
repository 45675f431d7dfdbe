use Rattle.std.proofs.Common.{◌≡◌, take}
use Rattle.listeners.specs.Telling.{told, row_event}
use Rattle.listeners.proofs.telling.row_events.Given as goal

abbrev pub invariant-loop-listener : goal.invariant-loop-listener
invariant-loop-listener l = l.events.items ≡ told (row_event l.rows) (take l.listener-index l.listeners)
