-- What a member of a partition's world would do with a call.
use Rattle.std.proofs.Common.{◌≡◌, ℕ, ◌<◌, Bool, true, false, cond, List, Option, Some, None, slice_get, refl, ap, sym, ◌∙◌, arith}
use Rattle.grid_base.specs.Shelves.{Meaning}
use Rattle.partition_protocol.specs.Node.{Node as ProtocolNode}
use Rattle.partition_protocol.specs.Execution.{Reached, reached}
use Rattle.partition_protocol.specs.Recorded.{Recorded}
use Rattle.partition_protocol.specs.World.{World as Machine, map_or, is_live}
use Rattle.partition_protocol.specs.Events.{Event}
use Rattle.replica_node.specs.Nodes.{node_of}
use Rattle.partition_world.specs.declared.world.World.{World}
use Rattle.partition_world.specs.Worlds.{StandsFor, run_of, node_count}
use Rattle.partition_world.proofs.Places.{there_at, get_map}
use Rattle.waiting_protocol.specs.LineClaims.{standing}
use Rattle.wait_sets.specs.declared.turn.Standing.{Standing}
use Rattle.wait_sets.specs.ListLaws.{standing_as}

pub gone_standing : (b : Bool) (r : Option Reached) → b ≡ false → None ≡ cond b r None
gone_standing b r e = rw e refl

pub live_standing : (m : ℕ) (b : Bool) (r : Option ProtocolNode) (node : ProtocolNode) (d : Option Reached) → b ≡ true → r ≡ Some node → d ≡ Some (reached m node) → d ≡ cond b (map_or r None (λ (n : ProtocolNode). Some (reached m n))) None
live_standing m b r node d e f g = g ∙ rw (e, f) refl

module _ {S R Plan C State : Type 0} (k : Meaning S C State) (records : R → Recorded C → Type 0) (limits : C → Type 0) (world : World S R Plan C) (events : List (Event C)) (member : ℕ) (stands : StandsFor k records limits world events) where
  abbrev pub run_is : Machine C
  run_is = run_of k world events

  pub its_node : member < node_count world → (node : ProtocolNode) × (slice_get run_is.nodes member ≡ Some node)
  its_node within =
      let here = there_at world.nodes.items member (omega (arith, within, world.nodes.ok.0)) in
      (node_of here.0, ap (λ ns. slice_get ns member) (sym stands.agrees.nodes) ∙ get_map node_of world.nodes.items member here.0 here.1)

  -- a live member, by the node that it is
  pub serves_or_refuses : (d : Standing) → member < node_count world → is_live run_is member ≡ true → ((node : ProtocolNode) → slice_get run_is.nodes member ≡ Some node → standing_as d ≡ Some (reached member node))
      → standing_as d ≡ standing run_is member
  serves_or_refuses d within live told =
      let n = its_node within in
      live_standing member (is_live run_is member) (slice_get run_is.nodes member) n.0 (standing_as d) live n.1 (told n.0 n.1)

  pub is_gone : is_live run_is member ≡ false → None ≡ standing run_is member
  is_gone gone = gone_standing (is_live run_is member) (map_or (slice_get run_is.nodes member) None (λ (n : ProtocolNode). Some (reached member n))) gone
