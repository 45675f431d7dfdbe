use Rattle.std.proofs.Common.{◌∙◌}
use Rattle.grid_base.specs.Shelves.{meaning}
use Rattle.partition_world.specs.Worlds.{run_of}
use Rattle.partition_world.proofs.LinkOrder.{crowded_in_world}
use Rattle.partition_world.proofs.world.World.has_crowded_link.Goals as goal

pub returns : goal.returns
returns g c plan events stands =
    let k = meaning g.S.Shelf.model plan in
    let world = c.args.self.now in
    c.has_crowded_link.ensures ∙ crowded_in_world k (run_of k world events) world.links stands.agrees.links stands.agrees.ends c.args.most
