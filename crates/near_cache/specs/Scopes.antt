-- Which keys go.
use Rattle.std.specs.Prelude.{ℕ, Bool, ◌&&◌, ◌==◌, nat_le, bytes_eq, List, length}
use Rattle.murmur_partition.specs.Keys.{key_hash_of, partition_of_hash}
use Rattle.near_cache.specs.declared.scope.Scope.{Scope}
use Rattle.near_cache.specs.declared.scope.Scope.TheVariants.{Key, Partition}

-- a key of fewer than eight bytes is in no partition
abbrev pub is_in_partition : ℕ → List ℕ → Bool
is_in_partition p key = nat_le 8 (length key) && (partition_of_hash (key_hash_of key) == p)

abbrev pub is_covered : Scope → List ℕ → Bool
is_covered (Key this) key = bytes_eq this.now key
is_covered (Partition p) key = is_in_partition p key
