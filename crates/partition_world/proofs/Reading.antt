-- What a world's members have, read at a number.
use Rattle.std.proofs.Common.{◌≡◌, ℕ, Some, slice_get, refl, ap, sym, ◌∙◌}
use Rattle.grid_base.specs.Shelves.{Meaning}
use Rattle.partition_protocol.specs.Node.{Node as ProtocolNode}
use Rattle.partition_protocol.specs.Recorded.{Recorded}
use Rattle.partition_protocol.specs.World.{World as Machine, pair_state}
use Rattle.replica_node.specs.declared.node.Node.{Node}
use Rattle.replica_node.specs.Nodes.{node_of, contents_of}
use Rattle.partition_world.specs.declared.world.World.{World}
use Rattle.partition_world.specs.ContentsOf.{pair_at, contents_at}
use Rattle.partition_world.specs.Worlds.{Agrees}
use Rattle.partition_world.proofs.Places.{get_map}

module _ {S R Plan C State : Type 0} (k : Meaning S C State) (records : R → Recorded C → Type 0) (world : World S R Plan C) (w : Machine C) (agrees : Agrees k records world w) (m : ℕ) (node : Node S) (there : slice_get world.nodes.items m ≡ Some node) where
  pub node_there : slice_get w.nodes m ≡ Some (node_of node)
  node_there = ap (λ ns. slice_get ns m) (sym agrees.nodes) ∙ get_map node_of world.nodes.items m node there

  -- the protocol's node of that number is this one
  pub node_is : (n : ProtocolNode) → slice_get w.nodes m ≡ Some n → node_of node ≡ n
  node_is n at = let same : Some (node_of node) ≡ Some n = sym node_there ∙ at in cc

  pub pair_is : (node_of node).pair ≡ pair_at w m
  pair_is = sym (rw node_there refl)

  pub contents_is : k.state (contents_of node) ≡ contents_at k.object w m
  contents_is = (agrees.each m node there).contents ∙ ap (pair_state k.object w) pair_is
