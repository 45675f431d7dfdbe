-- What those who listen are sent.
use Rattle.std.specs.Prelude.{ℕ, List, [], filter, Option, Some, None, option_map}
use Rattle.std.specs.List.{filter_map}
use Rattle.grid_base.specs.declared.calls.Change.{Change}
use Rattle.frame_codec.specs.Laws.{spelled}
use Rattle.partition_table.specs.declared.Row.{Row}
use Rattle.primary_hold.specs.declared.answer.CallAnswer.{CallAnswer}
use Rattle.event_codecs.specs.Writing.{entry_frames, invalidation_frames, rows_frames}
use Rattle.listeners.specs.Standing.{is_about, is_about_rows}
use Rattle.listeners.specs.declared.listener.Listener.{Listener}
use Rattle.event_codecs.specs.declared.registration.Registration.{Registration}
use Rattle.event_codecs.specs.declared.registration.Registration.TheVariants.{Entries, Invalidations, Rows}

-- bytes for a connection
abbrev pub Sent : Type 0
Sent = ℕ × List ℕ

-- each listener's event, where it has one, in the listeners' order
abbrev pub told : (Registration → Option (List ℕ)) → List Listener → List Sent
told event listeners = filter_map (λ listener. option_map (λ bytes. (listener.conn, bytes)) (event listener.registration)) listeners

-- A listener of the map is sent the change, or the version in which the call was executed and the count that it saw.
abbrev pub change_event : ℕ → CallAnswer → Change → Registration → Option (List ℕ)
change_event partition answer change (Entries correlation name with_value) = Some (spelled (entry_frames correlation partition change with_value))
change_event partition answer change (Invalidations correlation name) =
    Some (spelled (invalidation_frames correlation partition answer.version answer.seen change.name change.key))
change_event partition answer change (Rows correlation) = None

abbrev pub change_events : ℕ → CallAnswer → Option Change → List Listener → List Sent
change_events partition answer None all = []
change_events partition answer (Some change) all = told (change_event partition answer change) (filter (is_about change.name) all)

-- the events of a release: where the call changed a value, one to each listener of that map
abbrev pub events_of : ℕ → CallAnswer → List Listener → List Sent
events_of partition answer all = change_events partition answer answer.change all

-- A listener of rows is sent the rows.
abbrev pub row_event : List (ℕ × Row) → Registration → Option (List ℕ)
row_event rows (Rows correlation) = Some (spelled (rows_frames correlation rows))
row_event rows (Entries correlation name with_value) = None
row_event rows (Invalidations correlation name) = None

-- the events of an adoption
abbrev pub rows_of : List (ℕ × Row) → List Listener → List Sent
rows_of rows all = told (row_event rows) (filter is_about_rows all)
