-- Worked examples, which the definitions compute.
use Rattle.std.specs.Prelude.{◌≡◌, ℕ, pos, true, false, List, [], ◌∷◌, Some, None, refl}
use Rattle.grid_base.specs.declared.calls.Change.{Change}
use Rattle.frame_codec.specs.Laws.{spelled}
use Rattle.partition_table.specs.Rows.{eligible_member}
use Rattle.partition_table.specs.declared.Row.{Row}
use Rattle.primary_hold.specs.declared.answer.CallAnswer.{CallAnswer}
use Rattle.event_codecs.specs.Writing.{entry_frames, invalidation_frames, rows_frames}
use Rattle.listeners.specs.Telling.{events_of, rows_of}
use Rattle.listeners.specs.Steps.{Step, Registered, Closed, after}
use Rattle.event_codecs.specs.declared.registration.Registration.{Registration}
use Rattle.event_codecs.specs.declared.registration.Registration.TheVariants.{Entries, Invalidations, Rows}

abbrev on : ℕ → Registration → Step
on conn registration = Registered (record { conn = conn; registration = registration })

-- the maps `m` and `n`
abbrev m : List ℕ
m = 109 ∷ []

abbrev n : List ℕ
n = 110 ∷ []

abbrev key : List ℕ
key = 0 ∷ 0 ∷ 0 ∷ 5 ∷ 255 ∷ 255 ∷ 255 ∷ 245 ∷ 107 ∷ []

-- a put in version 3, which saw seven effects before it
abbrev change : Change
change = record { name = m; key = key; old = None; new = Some (118 ∷ []); expired = false }

abbrev put : CallAnswer
put = record { id = record { conn = 2; number = 9 }; version = 3; seen = 8; reply = []; change = Some change }

abbrev steps : List Step
steps =
    on 9 (Invalidations (pos 1) m)
    ∷ on 2 (Entries (pos 3) m true)
    ∷ on 5 (Rows (pos 4))
    ∷ on 5 (Invalidations (pos 2) n)
    ∷ on 2 (Invalidations (pos 3) m)
    ∷ on 9 (Entries (pos 4) m false)
    ∷ []

events_go_in_order_of_connection_and_then_of_registration : events_of 5 put (after [] steps)
    ≡ (2, spelled (entry_frames (pos 3) 5 change true))
    ∷ (2, spelled (invalidation_frames (pos 3) 5 3 8 m key))
    ∷ (9, spelled (invalidation_frames (pos 1) 5 3 8 m key))
    ∷ (9, spelled (entry_frames (pos 4) 5 change false))
    ∷ []
events_go_in_order_of_connection_and_then_of_registration = refl

a_closed_connection_hears_nothing : events_of 5 put (after (after [] steps) (Closed 2 ∷ on 2 (Invalidations (pos 7) m) ∷ []))
    ≡ (2, spelled (invalidation_frames (pos 7) 5 3 8 m key))
    ∷ (9, spelled (invalidation_frames (pos 1) 5 3 8 m key))
    ∷ (9, spelled (entry_frames (pos 4) 5 change false))
    ∷ []
a_closed_connection_hears_nothing = refl

who_changes_nothing_is_not_told_of : events_of 5 (record put { change = None }) (after [] steps) ≡ []
who_changes_nothing_is_not_told_of = refl

abbrev row : Row
row = record { version = 2; reset = 0; lost = false; members = eligible_member 1 ∷ [] }

rows_go_to_those_who_listen_to_them : rows_of ((5, row) ∷ []) (after [] steps) ≡ (5, spelled (rows_frames (pos 4) ((5, row) ∷ []))) ∷ []
rows_go_to_those_who_listen_to_them = refl
