-- What a member has of the partition: the pair that names its contents, the state that they are, and the answers that it holds.
use Rattle.std.specs.Prelude.{ℕ, Bool, false, slice_get}
use Rattle.grid_base.specs.Objects.{Object}
use Rattle.grid_base.specs.declared.names.CallId.{CallId}
use Rattle.partition_protocol.specs.Node.{Node, Pair, no_pair}
use Rattle.partition_protocol.specs.World.{World, map_or, pair_state}
use Rattle.primary_hold.specs.Answering.{holds_call}

-- the pair of a member's contents: nothing where the number is no member's
abbrev pub pair_at : {C : Type 0} → World C → ℕ → Pair
pair_at w m = map_or (slice_get w.nodes m) no_pair (λ (node : Node). node.pair)

-- the state that this pair names
abbrev pub contents_at : {C State : Type 0} → Object C State → World C → ℕ → State
contents_at o w m = pair_state o w (pair_at w m)

-- whether it holds the answer of that call until its backups have what the call saw
abbrev pub holds_at : {C : Type 0} → World C → ℕ → CallId → Bool
holds_at w m id = map_or (slice_get w.nodes m) false (λ (node : Node). holds_call id node.held)
