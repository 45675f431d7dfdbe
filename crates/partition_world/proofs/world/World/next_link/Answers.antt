use Rattle.std.proofs.Common.{◌∙◌}
use Rattle.grid_base.specs.Shelves.{meaning}
use Rattle.partition_world.specs.Worlds.{run_of}
use Rattle.partition_world.proofs.LinkOrder.{next_of_world}
use Rattle.partition_world.proofs.world.World.next_link.Goals as goal

pub returns : goal.returns
returns g c plan events stands =
    let k = meaning g.S.Shelf.model plan in
    let world = c.args.self.now in
    c.next_link.ensures ∙ next_of_world k (run_of k world events) world.links stands.agrees.links stands.agrees.ends
