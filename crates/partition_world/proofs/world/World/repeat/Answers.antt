-- The message comes last on its link once more, if there is one.
use Rattle.grid_base.specs.Shelves.{meaning}
use Rattle.partition_world.proofs.ShelfLaws.{shelf_of}
use Rattle.partition_world.proofs.InTransit.{repeated, not_repeated, none_past}
use Rattle.partition_world.proofs.world.World.repeat.Goals as goal

pub returns-then-branch-clause-ok : goal.returns-then-branch-clause-ok
returns-then-branch-clause-ok g c plan events comes =
    let S = g.S.Shelf in
    let laws = g.met.S.Shelf in
    let shelf =
    shelf_of S.model laws.begins_empty laws.changes_by_effect laws.same_without_effect laws.made_by_effect laws.begins_within laws.grows_within
    laws.widens laws.one_spelling plan in
    repeated (meaning S.model plan) g.R.Records.records S.model.within_limits S.model.within S.model.applied shelf c.args.self.now events c.args.from c.args.to c.args.place comes c.repeat.new.self c.in_ok-repeat.ensures.ends
    c.in_ok-repeat.ensures.ok (c.in_ok-repeat.ensures.repeated.0 c.if-branch.true)

pub returns-else-branch-clause-ok : goal.returns-else-branch-clause-ok
returns-else-branch-clause-ok g c plan events comes =
    let S = g.S.Shelf in
    let laws = g.met.S.Shelf in
    let shelf =
    shelf_of S.model laws.begins_empty laws.changes_by_effect laws.same_without_effect laws.made_by_effect laws.begins_within laws.grows_within
    laws.widens laws.one_spelling plan in
    not_repeated (meaning S.model plan) g.R.Records.records S.model.within_limits S.model.within S.model.applied shelf c.args.self.now events c.args.from c.args.to c.args.place comes c.repeat.new.self c.in_ok-repeat.ensures.ends
    c.in_ok-repeat.ensures.ok (none_past c.in_ok-repeat.field-0 _ _ c.in_ok-repeat.ensures.repeated c.if-branch.false)
