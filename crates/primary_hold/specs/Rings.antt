-- The newest effects of a primary, the oldest first.
use Rattle.std.specs.Prelude.{ℕ, ◌-◌, nat_le, if◌then◌else◌, List, [], ◌∷◌, ◌++◌, reverse, slice_get, Option, Some, None}
use Rattle.circular_buffer.specs.Buffer.{keep_last}
use Rattle.partition_protocol.specs.CatchUp.{recent_limit}

-- the effect of that number, where the newest one has the number `count`
abbrev pub kept : List (List ℕ) → ℕ → ℕ → Option (List ℕ)
kept ring count number = if nat_le number count then slice_get (reverse ring) (count - number) else None

-- the newest effects after a call with an effect or without
abbrev pub ring_after : Option (List ℕ) → List (List ℕ) → List (List ℕ)
ring_after None ring = ring
ring_after (Some bytes) ring = keep_last recent_limit (ring ++ bytes ∷ [])
