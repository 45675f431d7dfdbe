-- In which partition a call is.
use Rattle.std.specs.Prelude.{◌≡◌, ℕ, ◌<◌, ◌≤◌, ℤ, pos, List, length, unsigned_abs}
use Rattle.grid_base.specs.Names.{key_of}
use Rattle.grid_base.specs.declared.TheConstants.{PARTITIONS}
use Rattle.grid_base.specs.declared.calls.GridCall.{GridCall}
use Rattle.grid_base.specs.declared.calls.GridCall.TheVariants.{Map, Queue}
use Rattle.murmur_partition.specs.Keys.{key_hash_of, partition_of_hash}

abbrev pub partition_of_key : List ℕ → ℕ
partition_of_key key = partition_of_hash (key_hash_of key)

-- A call on a map's entry is in the partition of its key, and one on a queue in the partition that its message states.
abbrev pub partition_of_call : ℤ → GridCall → ℕ
partition_of_call stated (Map call) = partition_of_key (key_of call)
partition_of_call stated (Queue call) = unsigned_abs stated

-- What is read as a call says where it is: a key has the eight bytes before its content, and a queue's message states one of the grid's partitions.
abbrev pub SaysWhere : ℤ → GridCall → Type 0
SaysWhere stated (Map call) = 8 ≤ length (key_of call)
SaysWhere stated (Queue call) = (partition : ℕ) × (stated ≡ pos partition) × (partition < PARTITIONS)

-- An entry belongs to the partition of its key, and a queue may be in any.
abbrev pub BelongsTo : GridCall → ℕ → Type 0
BelongsTo (Map call) partition = partition ≡ partition_of_key (key_of call)
BelongsTo (Queue call) partition = partition < PARTITIONS
