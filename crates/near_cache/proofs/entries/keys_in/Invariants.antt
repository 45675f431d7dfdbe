use Rattle.std.proofs.Common.{◌≡◌, ◌++◌, filter}
use Rattle.std.specs.Map.{keys_of}
use Rattle.near_cache.specs.Scopes.{is_in_partition}
use Rattle.near_cache.proofs.entries.keys_in.Given as goal

abbrev pub invariant-loop-key : goal.invariant-loop-key
invariant-loop-key l =
    l.keys.items ++ keys_of (filter (λ e. is_in_partition l.partition e.0) l.key-iterator)
    ≡ keys_of (filter (λ e. is_in_partition l.partition e.0) l.entries.entries)
