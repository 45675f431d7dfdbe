-- The node of that number has what the protocol's has.
use Rattle.std.proofs.Common.{◌≡◌, ◌∙◌, Some, slice_get, ap, arith}
use Rattle.grid_base.specs.Shelves.{meaning}
use Rattle.partition_world.specs.Worlds.{run_of}
use Rattle.partition_world.proofs.Places.{stands_there}
use Rattle.partition_world.proofs.Reading.{pair_is, contents_is}
use Rattle.partition_world.proofs.world.World.contents.Goals as goal

pub returns-clause-pair : goal.returns-clause-pair
returns-clause-pair g c plan events stands =
    let S = g.S.Shelf in
    let k = meaning S.model plan in
    let world = c.args.self.now in
    let there : slice_get world.nodes.items c.args.member ≡ Some c.index.result.now = stands_there world.nodes.items c.args.member c.from.result c.index.result.now c.from.ensures (omega (arith, c.requires)) c.index.ensures in
    c.contents.ensures.pair ∙ pair_is k g.R.Records.records world (run_of k world events) stands.agrees c.args.member c.index.result.now there

pub returns-clause-state : goal.returns-clause-state
returns-clause-state g c plan events stands =
    let S = g.S.Shelf in
    let k = meaning S.model plan in
    let world = c.args.self.now in
    let there : slice_get world.nodes.items c.args.member ≡ Some c.index.result.now = stands_there world.nodes.items c.args.member c.from.result c.index.result.now c.from.ensures (omega (arith, c.requires)) c.index.ensures in
    ap S.model.state c.contents.ensures.shelf ∙ contents_is k g.R.Records.records world (run_of k world events) stands.agrees c.args.member c.index.result.now there
