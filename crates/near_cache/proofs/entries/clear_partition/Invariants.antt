use Rattle.std.proofs.Common.{◌≡◌, not, filter, drop}
use Rattle.std.specs.Map.{keys_of}
use Rattle.near_cache.specs.Scopes.{is_in_partition}
use Rattle.near_cache.proofs.entries.clear_partition.Given as goal

-- the keys that are left to take out are those of the partition that are there, and the entries of others are as they were
abbrev pub invariant-loop-key : goal.invariant-loop-key
invariant-loop-key l = record {
  left : keys_of (filter (λ e. is_in_partition l.partition e.0) l.entries.entries) ≡ drop l.key-index l.key-items;
  kept : filter (λ e. not (is_in_partition l.partition e.0)) l.entries.entries ≡ filter (λ e. not (is_in_partition l.partition e.0)) l.initial.entries.entries;
  cap : l.entries.cap ≡ l.initial.entries.cap;
}
