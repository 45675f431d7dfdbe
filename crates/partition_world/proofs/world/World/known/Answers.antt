-- The node of that number is the protocol's.
use Rattle.std.proofs.Common.{◌≡◌, ◌∙◌, Some, slice_get, ap, arith}
use Rattle.partition_protocol.specs.Node.{Node}
use Rattle.grid_base.specs.Shelves.{meaning}
use Rattle.partition_world.specs.Worlds.{run_of}
use Rattle.partition_world.proofs.Places.{stands_there}
use Rattle.partition_world.proofs.Reading.{node_is}
use Rattle.partition_world.proofs.world.World.known.Goals as goal

pub returns : goal.returns
returns g c plan events stands node at =
    let S = g.S.Shelf in
    let k = meaning S.model plan in
    let world = c.args.self.now in
    let there : slice_get world.nodes.items c.args.member ≡ Some c.index.result.now = stands_there world.nodes.items c.args.member c.from.result c.index.result.now c.from.ensures (omega (arith, c.requires)) c.index.ensures in
    c.known.ensures ∙ ap (λ (n : Node). n.known) (node_is k g.R.Records.records world (run_of k world events) stands.agrees c.args.member c.index.result.now there node at)
