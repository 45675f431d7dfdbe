-- The histories at reopenings, by the places of their entries in the log.
use Rattle.std.specs.Prelude.{ℕ, Bool, ◌==◌, List, All}
use Rattle.partition_protocol.specs.History.{Entry, Opening as ProtocolOpening}
use Rattle.partition_world.specs.declared.opening.Opening.{Opening}
use Rattle.partition_world.specs.Places.{at_places, AreBelow}

abbrev pub opening_of : {C : Type 0} → List (Entry C) → Opening → ProtocolOpening C
opening_of log opening = record { reset = opening.reset; entries = at_places log opening.places.items }

-- all places are in a log of that length
abbrev pub AreWithin : ℕ → List Opening → Type 0
AreWithin n openings = All (λ (o : Opening). AreBelow n o.places.items) openings

abbrev pub has_reset : ℕ → Opening → Bool
has_reset reset opening = opening.reset == reset
