-- The hash of a key, and the partition that it is in.
use Rattle.std.specs.Prelude.{ℕ, ◌-◌, ◌%◌, ◌^◌, ◌==◌, ℤ, negsuc, unsigned_abs, List, take, drop, if◌then◌else◌}
use Rattle.std.specs.Int.{w32, from_be_bytes, cast_signed}
use Rattle.std.specs.Ordering.{int_eq}
use Rattle.grid_base.specs.declared.TheConstants.{PARTITIONS}
use Rattle.murmur_partition.specs.Murmur.{murmur3_of}

-- the partition hash that serialized data states in its first four bytes, high byte first
abbrev pub stated_hash : List ℕ → ℕ
stated_hash bytes = from_be_bytes w32 (take 4 bytes)

-- A stated hash other than 0 is used as it stands; for 0 it is that of the content, which begins at byte 8.
abbrev pub key_hash_of : List ℕ → ℤ
key_hash_of bytes = cast_signed w32 (if stated_hash bytes == 0 then murmur3_of (drop 8 bytes) 0x01000193 else stated_hash bytes)

-- The absolute value of the hash modulo the number of partitions. That of -2^31 would leave its type, and is taken as 0.
abbrev pub partition_of_hash : ℤ → ℕ
partition_of_hash hash = if int_eq hash (negsuc 0x7fff_ffff) then 0 else unsigned_abs hash % PARTITIONS
