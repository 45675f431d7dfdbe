-- What the listeners of a member stand for.
use Rattle.std.specs.Prelude.{List}
use Rattle.listeners.specs.Tables.{Keep}
use Rattle.listeners.specs.declared.listeners.Listeners.{Listeners}
use Rattle.listeners.specs.declared.listener.Listener.{Listener}

-- all the registrations that stand, in order of connection, and those of one connection as they were made
abbrev pub StandFor : Listeners → List Listener → Type 0
StandFor listeners all = Keep listeners.maps listeners.rows all
