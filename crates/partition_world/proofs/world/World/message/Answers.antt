use Rattle.std.proofs.Common.{◌∙◌}
use Rattle.member_wire.specs.Said.{said_with}
use Rattle.grid_base.specs.Shelves.{meaning}
use Rattle.partition_world.specs.InFlight.{contents_in}
use Rattle.partition_world.specs.Worlds.{run_of}
use Rattle.partition_world.proofs.Delivering.{message_spelled, message_bytes}
use Rattle.partition_world.proofs.world.World.message.Goals as goal

-- It is read, as it has its spelling
pub returns-in-Ok : goal.returns-in-Ok
returns-in-Ok g c plan events comes msg at =
    let S = g.S.Shelf in
    let k = meaning S.model plan in
    let old = c.args.self.now in
    let bytes = c.as_slice.ensures ∙ message_bytes k g.R.Records.records S.model.within_limits old events c.args.from c.args.to c.args.place comes msg at c.list.result.now c.index-list-place.result c.list.ensures c.index-list-place.is in
    let is = c.in-Ok.ensures.only (said_with (contents_in k (run_of k old events)) msg) (message_spelled k g.R.Records.records S.model.within_limits old events c.args.from c.args.to c.args.place comes msg at) bytes in
    cc
