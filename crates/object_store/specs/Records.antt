-- What is kept of one object.
use Rattle.std.specs.Prelude.{ℕ, Bool, true, false, not, ◌&&◌, ◌||◌, List, [], ◌∷◌, Option, Some, None, is_some, if◌then◌else◌}
use Rattle.grid_base.specs.declared.names.ObjectKey.{ObjectKey}
use Rattle.grid_base.specs.declared.names.ObjectKey.TheVariants as object
use Rattle.map_records.specs.declared.records.MapRecord.{MapRecord}
use Rattle.map_records.specs.MapEntries.{empty_entry}

-- of a map's entry its record, and of a queue its values, the front first
pub data Record : Type 0 where
  Map : (entry : MapRecord) → Record
  Queue : (items : List (List ℕ)) → Record

-- at first, and again where nothing is kept
abbrev pub nothing_of : ObjectKey → Record
nothing_of (object.Entry map key) = Map empty_entry
nothing_of (object.Queue name) = Queue []

-- the record as that of an entry or of a queue; one of the other kind has nothing of it

abbrev pub entry_in : Record → MapRecord
entry_in (Map entry) = entry
entry_in (Queue items) = empty_entry

abbrev pub items_in : Record → List (List ℕ)
items_in (Queue items) = items
items_in (Map entry) = []

-- nothing to keep
abbrev pub is_nothing : Record → Bool
is_nothing (Map entry) = not (is_some entry.value) && not (is_some entry.expires) && not (is_some entry.idle) && not (is_some entry.lock)
is_nothing (Queue []) = true
is_nothing (Queue (item ∷ items)) = false

-- what is kept of an entry and of a queue, where it is something

abbrev pub kept_entry : Record → Option MapRecord
kept_entry kept = if is_nothing kept then None else Some (entry_in kept)

abbrev pub kept_items : Record → Option (List (List ℕ))
kept_items kept = if is_nothing kept then None else Some (items_in kept)

-- An entry has a map record, and a queue has values.
abbrev pub suits : ObjectKey → Record → Bool
suits (object.Entry map key) (Map entry) = true
suits (object.Queue name) (Queue items) = true
suits (object.Entry map key) (Queue items) = false
suits (object.Queue name) (Map entry) = false

-- An entry is kept for its value or for its lock.
abbrev pub has_value_or_lock : MapRecord → Bool
has_value_or_lock entry = is_some entry.value || is_some entry.lock
