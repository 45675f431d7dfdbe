use Rattle.std.proofs.Common.{◌∙◌, refl, sym}
use Rattle.partition_protocol.proofs.RowFacts.{number_other}
use Rattle.grid_base.specs.Shelves.{meaning}
use Rattle.partition_world.specs.Worlds.{run_of}
use Rattle.partition_world.proofs.ServiceTakes.{none_there, message_at, dropped}
use Rattle.partition_world.proofs.ShelfLaws.{shelf_of}
use Rattle.partition_world.proofs.world.World.deliver.Goals as goal

pub returns-then-place-list-clause-ok : goal.returns-then-place-list-clause-ok
returns-then-place-list-clause-ok g c plan events comes =
    let S = g.S.Shelf in
    let met = g.met.S.Shelf in
    let shelf = shelf_of S.model
    met.begins_empty met.changes_by_effect met.same_without_effect met.made_by_effect met.begins_within met.grows_within met.widens met.one_spelling plan in
    none_there _ _ S.model.within_limits S.model.within S.model.applied shelf c.args.self.now events c.args.from c.args.to c.args.place comes c.list.result.now c.list.ensures c.if-place-list.true

pub returns-then-not-is_live-clause-ok : goal.returns-then-not-is_live-clause-ok
returns-then-not-is_live-clause-ok g c plan events comes =
    let S = g.S.Shelf in
    let met = g.met.S.Shelf in
    let shelf = shelf_of S.model
    met.begins_empty met.changes_by_effect met.same_without_effect met.made_by_effect met.begins_within met.grows_within met.widens met.one_spelling plan in
    let old = c.args.self.now in
    let members = (run_of (meaning S.model plan) old events).members in
    let msg = message_at _ _ S.model.within_limits S.model.within S.model.applied shelf old events c.args.from c.args.to c.args.place comes c.list.result.now c.list.ensures c.if-place-list.false in
    dropped _ _ S.model.within_limits S.model.within S.model.applied shelf old events c.args.from c.args.to c.args.place comes msg.0 msg.1 _ c.lose.ensures.lists c.lose.ensures.ends
    (number_other c.args.to members (λ e. c.if-to-self.false (e ∙ sym comes.stands.agrees.members)))
    (sym (c.is_live.ensures plan events comes.stands) ∙ c.if-not-is_live.true) refl refl refl refl refl refl
