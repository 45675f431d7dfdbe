-- Who listens: the registrations that stand, in order of connection, and those of one connection as they were made.
use Rattle.std.specs.Prelude.{ℕ, Bool, false, not, ◌==◌, nat_lt, bytes_eq, if◌then◌else◌, List, [], ◌∷◌, filter}
use Rattle.std.specs.Option.{option_map_or, is_none}
use Rattle.event_codecs.specs.SpelledRegistrations.{map_of}
use Rattle.listeners.specs.declared.listener.Listener.{Listener}

-- it listens to the map of that name
abbrev pub is_about : List ℕ → Listener → Bool
is_about name listener = option_map_or (λ map. bytes_eq map name) (map_of listener.registration) false

-- it listens to rows
abbrev pub is_about_rows : Listener → Bool
is_about_rows listener = is_none (map_of listener.registration)

-- A new listener comes before the first one of a later connection.
abbrev pub placed : Listener → List Listener → List Listener
placed new [] = new ∷ []
placed new (listener ∷ others) = if nat_lt new.conn listener.conn then new ∷ listener ∷ others else listener ∷ placed new others

-- those of other connections
abbrev pub without : ℕ → List Listener → List Listener
without conn all = filter (λ (listener : Listener). not (listener.conn == conn)) all
