use Rattle.std.proofs.Common.{◌≡◌, length}
use Rattle.murmur_partition.specs.Murmur.{with_bytes}
use Rattle.murmur_partition.proofs.murmur.murmur3.Given as goal

-- the bytes that are left complete the hash of all
abbrev pub invariant-words : goal.invariant-words
invariant-words l = with_bytes l.hash l.rest ≡ with_bytes l.seed l.bytes

abbrev pub decreases-words : goal.decreases-words
decreases-words l = length l.rest
