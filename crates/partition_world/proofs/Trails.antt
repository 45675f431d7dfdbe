-- The history by which the protocol's partition stands, by what is recorded and the pair of its first member.
use Rattle.std.proofs.Common.{◌≡◌, ℕ, [], Option, Some, None, option_map, slice_get, refl}
use Rattle.std.specs.Option.{option_and_then}
use Rattle.partition_table.specs.Rows.{first_of}
use Rattle.partition_protocol.specs.Node.{Node, Pair}
use Rattle.partition_protocol.specs.World.{World, map_or, history_since, trail_at, trail}
use Rattle.partition_world.specs.Recorders.{trail_by}

-- the pair of the first member of the standing row, if there is one
abbrev pub first_pair : {C : Type 0} → World C → Option Pair
first_pair w = option_and_then (λ m. option_map (λ (node : Node). node.pair) (slice_get w.nodes m)) (first_of w.recorded.standing.members)

pub trail_is : {C : Type 0} (w : World C) → trail w ≡ trail_by w.recorded (first_pair w)
trail_is {C = C} w = go (first_of w.recorded.standing.members)
  where
    at : (node : Option Node) → map_or node [] (λ (node : Node). history_since w w.recorded.standing.reset node.pair) ≡ trail_by w.recorded (option_map (λ (node : Node). node.pair) node)
    at None = refl
    at (Some node) = refl

    go : (first : Option ℕ) → trail_at w first ≡ trail_by w.recorded (option_and_then (λ m. option_map (λ (node : Node). node.pair) (slice_get w.nodes m)) first)
    go None = refl
    go (Some m) = at (slice_get w.nodes m)
