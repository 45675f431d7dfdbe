-- Objects in order: each behind the last one that was read.
use Rattle.std.specs.Prelude.{ℕ, Bool, true, List, [], Option, Some, None, Result, Ok, Err, if◌then◌else◌}
use Rattle.std.specs.Int.{w32}
use Rattle.std.specs.Ordering.{is_lt}
use Rattle.grid_base.specs.declared.names.ObjectKey.{ObjectKey}
use Rattle.wire_parts.specs.declared.refusal.WireRefused.{WireRefused}
use Rattle.wire_parts.specs.declared.refusal.WireRefused.TheVariants.{Order}
use Rattle.wire_parts.specs.Places.{Place, start}
use Rattle.wire_parts.specs.Parts.{◌>>=◌, number_at, end_at}
use Rattle.object_store.specs.Partitions.{Partition, object_cmp, partition_of}
use Rattle.object_store.specs.Reading.{Read, object_at, stored_at}

abbrev pub is_past : Option ObjectKey → ObjectKey → Bool
is_past None name = true
is_past (Some last) name = is_lt (object_cmp last name)

unfoldable pub past_at : Option ObjectKey → Place → Read ObjectKey
past_at last p = do
  name ← object_at p
  if is_past last name.0 then Ok name else Err (Order p.at)

-- the partition of so many objects
unfoldable pub objects_at : ℕ → Place → Read Partition
objects_at count p = do
  stored ← stored_at [] count p
  Ok (partition_of stored.0, stored.1)

-- the partition that the bytes are a snapshot of, all of them
unfoldable pub partition_in : List ℕ → Result Partition WireRefused
partition_in bytes = do
  count ← number_at w32 (start bytes)
  s ← objects_at count.0 count.1
  end ← end_at s.1
  Ok s.0
