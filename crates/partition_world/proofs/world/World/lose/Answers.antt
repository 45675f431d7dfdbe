-- The message leaves its link, if there is one.
use Rattle.grid_base.specs.Shelves.{meaning}
use Rattle.partition_world.proofs.ShelfLaws.{shelf_of}
use Rattle.partition_world.proofs.InTransit.{lost, not_lost, none_past}
use Rattle.partition_world.proofs.world.World.lose.Goals as goal

pub returns-then-lose-clause-ok : goal.returns-then-lose-clause-ok
returns-then-lose-clause-ok g c plan events comes =
    let S = g.S.Shelf in
    let laws = g.met.S.Shelf in
    let shelf =
    shelf_of S.model laws.begins_empty laws.changes_by_effect laws.same_without_effect laws.made_by_effect laws.begins_within laws.grows_within
    laws.widens laws.one_spelling plan in
    lost (meaning S.model plan) g.R.Records.records S.model.within_limits S.model.within S.model.applied shelf c.args.self.now events c.args.from c.args.to c.args.place comes c.lose.new.self c.lose.ensures.ends c.lose.ensures.lists
    (c.lose.ensures.lost.0 c.if-lose.true)

pub returns-else-lose-clause-ok : goal.returns-else-lose-clause-ok
returns-else-lose-clause-ok g c plan events comes =
    let S = g.S.Shelf in
    let laws = g.met.S.Shelf in
    let shelf =
    shelf_of S.model laws.begins_empty laws.changes_by_effect laws.same_without_effect laws.made_by_effect laws.begins_within laws.grows_within
    laws.widens laws.one_spelling plan in
    not_lost (meaning S.model plan) g.R.Records.records S.model.within_limits S.model.within S.model.applied shelf c.args.self.now events c.args.from c.args.to c.args.place comes c.lose.new.self c.lose.ensures.ends c.lose.ensures.lists
    (none_past c.lose.result _ _ c.lose.ensures.lost c.if-lose.false)
