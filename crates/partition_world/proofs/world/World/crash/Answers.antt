-- A live member crashes.
use Rattle.std.proofs.Common.{refl, sym, ◌∙◌}
use Rattle.partition_world.specs.declared.world.World.{World}
use Rattle.grid_base.specs.Shelves.{meaning}
use Rattle.partition_world.proofs.ShelfLaws.{shelf_of}
use Rattle.partition_world.proofs.Crashing.{crashes}
use Rattle.partition_world.proofs.world.World.crash.Goals as goal

pub returns-clause-ok : goal.returns-clause-ok
returns-clause-ok g c plan events comes =
    let S = g.S.Shelf in
    let laws = g.met.S.Shelf in
    let shelf =
    shelf_of S.model laws.begins_empty laws.changes_by_effect laws.same_without_effect laws.made_by_effect laws.begins_within laws.grows_within
    laws.widens laws.one_spelling plan in
    let new : World _ _ _ _ = record c.args.self.now { crashed = c.insert.new.self } in
    crashes (meaning S.model plan) g.R.Records.records S.model.within_limits S.model.within S.model.applied shelf c.args.self.now events c.args.member comes (sym (c.is_live.ensures plan events comes.stands) ∙ c.if-not-is_live.false)
    new refl c.in_ok-insert.ensures.items
