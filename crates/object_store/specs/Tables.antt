-- What the tables of a store keep.
use Rattle.std.specs.Prelude.{◌≡◌, ◌≢◌, ℕ, false, ◌&&◌, List, [], ◌++◌, map as each, bytes_eq, Option, IfSome, unwrap_or, if◌then◌else◌}
use Rattle.std.specs.List.{flat_map}
use Rattle.std.specs.Option.{option_and_then}
use Rattle.std.specs.HashMap.{HashMap, IsUnique, get}
use Rattle.grid_base.specs.declared.names.ObjectKey.{ObjectKey}
use Rattle.grid_base.specs.declared.names.ObjectKey.TheVariants as object
use Rattle.map_records.specs.declared.records.MapRecord.{MapRecord}
use Rattle.object_store.specs.Records.{Record, Map, Queue, is_nothing}
use Rattle.object_store.specs.Partitions.{Partition, partition_of}

-- the records of a map by their keys, the maps by their names, and the queues by theirs, in tables hashed by an S

abbrev pub Entries : Type 0 → Type 0
Entries S = HashMap (List ℕ) MapRecord S

abbrev pub Maps : Type 0 → Type 0
Maps S = HashMap (List ℕ) (HashMap (List ℕ) MapRecord S) S

abbrev pub Queues : Type 0 → Type 0
Queues S = HashMap (List ℕ) (List (List ℕ)) S

-- No record that is kept is nothing, and no queue is empty.

abbrev pub IsEntryKept : MapRecord → Type 0
IsEntryKept entry = is_nothing (Map entry) ≡ false

abbrev pub IsQueueKept : List (List ℕ) → Type 0
IsQueueKept items = is_nothing (Queue items) ≡ false

abbrev pub queue_stored : List ℕ × List (List ℕ) → ObjectKey × Record
queue_stored one = (object.Queue one.0, Queue one.1)

-- the names of objects with their records
abbrev pub names_of : List (ObjectKey × Record) → List ObjectKey
names_of stored = each (λ one. one.0) stored

module _ {S : Type 0} where
  -- the objects of the tables, each with its record

  abbrev pub entries_stored : List ℕ × HashMap (List ℕ) MapRecord S → List (ObjectKey × Record)
  entries_stored one = each (λ entry. (object.Entry one.0 entry.0, Map entry.1)) one.1.entries

  abbrev pub tables_stored : Maps S → Queues S → List (ObjectKey × Record)
  tables_stored maps queues = flat_map entries_stored maps.entries ++ each queue_stored queues.entries

  abbrev pub partition_in : Maps S → Queues S → Partition
  partition_in maps queues = partition_of (tables_stored maps queues)

  -- the record of an entry, where it is kept, and the values of a queue

  abbrev pub entry_at : Maps S → List ℕ → List ℕ → Option MapRecord
  entry_at maps name key = option_and_then (λ (entries : Entries S). get bytes_eq entries key) (get bytes_eq maps name)

  abbrev pub items_at : Queues S → List ℕ → List (List ℕ)
  items_at queues name = unwrap_or (get bytes_eq queues name) []

  -- The keys of a table differ, what is in it is kept, and a map that has a table has an entry.

  abbrev pub AreEntriesKept : Entries S → Type 0
  AreEntriesKept entries = IsUnique bytes_eq entries × ((key : List ℕ) → IfSome (get bytes_eq entries key) IsEntryKept)

  abbrev pub IsMapKept : Entries S → Type 0
  IsMapKept entries = (entries.entries ≢ []) × AreEntriesKept entries

  abbrev pub AreMapsKept : Maps S → Type 0
  AreMapsKept maps = IsUnique bytes_eq maps × ((name : List ℕ) → IfSome (get bytes_eq maps name) IsMapKept)

  abbrev pub AreQueuesKept : Queues S → Type 0
  AreQueuesKept queues = IsUnique bytes_eq queues × ((name : List ℕ) → IfSome (get bytes_eq queues name) IsQueueKept)

  -- The record of one entry changes, and all others stay.

  abbrev pub SetsEntry : Entries S → Entries S → List ℕ → Option MapRecord → Type 0
  SetsEntry old new key entry = (other : List ℕ) → get bytes_eq new other ≡ (if bytes_eq key other then entry else get bytes_eq old other)

  abbrev pub SetsMapEntry : Maps S → Maps S → List ℕ → List ℕ → Option MapRecord → Type 0
  SetsMapEntry old new name key entry = (name' key' : List ℕ) → entry_at new name' key' ≡ (if bytes_eq name name' && bytes_eq key key' then entry else entry_at old name' key')

  abbrev pub HasSameEntries : Maps S → Maps S → Type 0
  HasSameEntries old new = (name key : List ℕ) → entry_at new name key ≡ entry_at old name key

  -- The values of one queue change, and all others stay.

  abbrev pub SetsQueue : Queues S → Queues S → List ℕ → Option (List (List ℕ)) → Type 0
  SetsQueue old new name items = (other : List ℕ) → get bytes_eq new other ≡ (if bytes_eq name other then items else get bytes_eq old other)

  abbrev pub HasSameQueues : Queues S → Queues S → Type 0
  HasSameQueues old new = (name : List ℕ) → get bytes_eq new name ≡ get bytes_eq old name
