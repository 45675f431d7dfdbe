use Rattle.std.proofs.Common.{◌≡◌, take}
use Rattle.listeners.specs.Telling.{told, change_event}
use Rattle.listeners.proofs.telling.change_events.Given as goal

abbrev pub invariant-loop-listener : goal.invariant-loop-listener
invariant-loop-listener l = l.events.items ≡ told (change_event l.partition l.answer l.change) (take l.listener-index l.listeners)
