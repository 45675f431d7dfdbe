-- Which effects fit a partition, and what they make of it.
use Rattle.std.specs.Prelude.{Bool, true, not, [], ◌∷◌, ◌++◌, drop}
use Rattle.grid_base.specs.declared.names.ObjectKey.{ObjectKey}
use Rattle.grid_base.specs.declared.names.ObjectKey.TheVariants as object
use Rattle.map_records.specs.MapEntries.{empty_entry}
use Rattle.object_store.specs.declared.effects.Effect.{Effect}
use Rattle.object_store.specs.declared.effects.Effect.TheVariants.{SetEntry, DropEntry, Push, Pop, Clear}
use Rattle.object_store.specs.Records.{Record, Map, Queue, items_in, is_nothing, has_value_or_lock}
use Rattle.object_store.specs.Partitions.{Partition, record_at, with_record}

-- the object that an effect changes
abbrev pub target_of : Effect → ObjectKey
target_of (SetEntry map key entry) = object.Entry map key
target_of (DropEntry map key) = object.Entry map key
target_of (Push queue value) = object.Queue queue
target_of (Pop queue) = object.Queue queue
target_of (Clear queue) = object.Queue queue

-- An entry is set to what is kept of it, and nothing is taken from an empty queue.
abbrev pub fits : Partition → Effect → Bool
fits s (SetEntry map key entry) = has_value_or_lock entry
fits s (Pop queue) = not (is_nothing (record_at s (object.Queue queue)))
fits s effect = true

-- what is kept of the object after the effect, by what was kept before
abbrev pub changed_by : Record → Effect → Record
changed_by kept (SetEntry map key entry) = Map entry
changed_by kept (DropEntry map key) = Map empty_entry
changed_by kept (Push queue value) = Queue (items_in kept ++ value ∷ [])
changed_by kept (Pop queue) = Queue (drop 1 (items_in kept))
changed_by kept (Clear queue) = Queue []

abbrev pub after_effect : Partition → Effect → Partition
after_effect s effect = with_record s (target_of effect) (changed_by (record_at s (target_of effect)) effect)
