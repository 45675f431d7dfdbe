-- The pair of the first member of the standing row, as the code finds it, is that of the protocol.
use Rattle.std.proofs.Common.{◌≡◌, ℕ, zero, suc, ◌≤◌, List, [], ◌∷◌, map, length, Option, Some, None, option_map, slice_get, refl, ap, sym, ◌∙◌}
use Rattle.std.specs.Option.{option_and_then}
use Rattle.std.proofs.lemmas.Option.{slice_get_past}
use Rattle.partition_table.specs.Rows.{first_of}
use Rattle.partition_protocol.specs.Node.{Node as ProtocolNode, Pair}
use Rattle.partition_protocol.specs.World.{World as Machine, trail}
use Rattle.replica_node.specs.declared.node.Node.{Node}
use Rattle.replica_node.specs.Nodes.{node_of}
use Rattle.partition_world.specs.declared.world.World.{World}
use Rattle.grid_base.specs.Shelves.{Meaning}
use Rattle.partition_world.specs.Recorders.{trail_by}
use Rattle.partition_world.specs.Worlds.{Agrees, pair_of_member, leading_pair}
use Rattle.partition_world.proofs.Trails.{first_pair, trail_is}
use Rattle.partition_protocol.specs.Recorded.{Recorded}

abbrev of_node : {S : Type 0} → Node S → Pair
of_node node = (node_of node).pair

-- what the code finds

module _ {S R Plan C : Type 0} (world : World S R Plan C) (leader : Option ℕ) where
  pub leading_none : None ≡ leader → None ≡ leading_pair world leader
  leading_none e = ap (option_and_then (pair_of_member world)) e

  pub leading_past : (m : ℕ) → Some m ≡ leader → length world.nodes.items ≤ m → None ≡ leading_pair world leader
  leading_past m e past = ap (option_map of_node) (sym (slice_get_past world.nodes.items m past)) ∙ ap (option_and_then (pair_of_member world)) e

  pub leading_at : (m : ℕ) (node : Node S) (p : Pair) → Some m ≡ leader → slice_get world.nodes.items m ≡ Some node → p ≡ (node_of node).pair → Some p ≡ leading_pair world leader
  leading_at m node p e there same =
      ap (λ (q : Pair). Some q) same ∙ ap (option_map of_node) (sym there) ∙ ap (option_and_then (pair_of_member world)) e

-- and what the protocol finds

pair_there : {S : Type 0} (nodes : List (Node S)) (m : ℕ) → option_map of_node (slice_get nodes m) ≡ option_map (λ (n : ProtocolNode). n.pair) (slice_get (map node_of nodes) m)
pair_there [] zero = refl
pair_there [] (suc m) = refl
pair_there (node ∷ nodes) zero = refl
pair_there (node ∷ nodes) (suc m) = pair_there nodes m

module _ {S R Plan C State : Type 0} (k : Meaning S C State) (records : R → Recorded C → Type 0) (world : World S R Plan C) (w : Machine C) (agrees : Agrees k records world w) where
  pub leading_is : leading_pair world (first_of w.recorded.standing.members) ≡ first_pair w
  leading_is = go (first_of w.recorded.standing.members)
    where
      go : (leader : Option ℕ) → option_and_then (pair_of_member world) leader ≡ option_and_then (λ m. option_map (λ (n : ProtocolNode). n.pair) (slice_get w.nodes m)) leader
      go None = refl
      go (Some m) = pair_there world.nodes.items m ∙ ap (λ ns. option_map (λ (n : ProtocolNode). n.pair) (slice_get ns m)) agrees.nodes

  pub trail_found : trail w ≡ trail_by w.recorded (leading_pair world (first_of w.recorded.standing.members))
  trail_found = trail_is w ∙ ap (trail_by w.recorded) (sym leading_is)
