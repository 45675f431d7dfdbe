-- The move begins with a row that is told, or is refused.
use Rattle.std.proofs.Common.{refl, ap}
use Rattle.partition_protocol.specs.Events.{BeginMove, RowMadeAt}
use Rattle.table_service.specs.Refusals.{move_refusal}
use Rattle.table_service.specs.Services.{service_of, service_number}
use Rattle.partition_world.specs.declared.event.Happened.TheVariants.{RowMade}
use Rattle.grid_base.specs.Shelves.{meaning}
use Rattle.partition_world.specs.Worlds.{run_of}
use Rattle.partition_world.proofs.ShelfLaws.{shelf_of}
use Rattle.partition_world.proofs.ServiceSteps.{begun, not_begun, row_room, few_sent, tells_few, stands_run, served_move, refused_move}
use Rattle.partition_world.proofs.world.World.begin_move.Goals as goal

pub begin_move-requires : goal.begin_move-requires
begin_move-requires g c =
    let sh = g.S.Shelf in
    let k = meaning sh.model c.requires.0 in
    row_room k g.R.Records.records sh.model.within_limits c.args.self.now c.requires.1 _ c.requires.2

pub stand-requires : goal.stand-requires
stand-requires g c =
    let sh = g.S.Shelf in
    let k = meaning sh.model c.requires.0 in
    let old = c.args.self.now in
    let ok = begun move_refusal (service_number old.service) (service_of c.begin_move.new.self) _ _ c.in_ok-made.field-0 c.in-Ok.made c.in-Ok.is c.in_ok-made.ensures.refused c.in_ok-made.ensures.service c.in_ok-made.ensures.made in
    let made = service_of c.begin_move.new.self in
    let served = served_move k g.R.Records.records sh.model.within_limits old c.requires.1 c.args.from c.args.to c.requires.2 made ok.refused ok.service in
    few_sent k g.R.Records.records sh.model.within_limits old c.requires.1 (BeginMove c.args.from c.args.to) c.requires.2 _ _ _ _ served c.in-Ok.made.out ok.told.told (tells_few (service_number old.service) made)
    c.reserve.new.self c.reserve.ensures.ends c.in_ok-reserve.ensures.ok

pub returns-in-Ok-clause-ok : goal.returns-in-Ok-clause-ok
returns-in-Ok-clause-ok g c plan events comes =
    let sh = g.S.Shelf in
    let law = g.met.S.Shelf in
    let k = meaning sh.model plan in
    let shelf = shelf_of sh.model law.begins_empty law.changes_by_effect law.same_without_effect law.made_by_effect law.begins_within law.grows_within law.widens law.one_spelling plan in
    let old = c.args.self.now in
    let ok = begun move_refusal (service_number old.service) (service_of c.begin_move.new.self) _ _ c.in_ok-made.field-0 c.in-Ok.made c.in-Ok.is c.in_ok-made.ensures.refused c.in_ok-made.ensures.service c.in_ok-made.ensures.made in
    let served = served_move k g.R.Records.records sh.model.within_limits old events c.args.from c.args.to comes (service_of c.begin_move.new.self) ok.refused ok.service in
    stands_run k g.R.Records.records sh.model.within_limits old events (BeginMove c.args.from c.args.to) comes _ _ _ _ served c.in-Ok.made.out ok.told.told sh.model.within sh.model.applied shelf
    c.reserve.new.self c.reserve.ensures.ends c.reserve.ensures.lists c.begin_move.new.self c.in_ok-made.ensures.setup refl old.recorder (run_of k old events).recorded comes.stands.agrees.recorded refl
    c.stand.new.self c.stand.ensures.recorder c.stand.ensures.links c.stand.ensures.ends c.stand.ensures.rest (RowMade c.in-Ok.made.outcome) (ap RowMadeAt ok.told.version)

pub returns-in-Err-clause-ok : goal.returns-in-Err-clause-ok
returns-in-Err-clause-ok g c plan events comes =
    let sh = g.S.Shelf in
    let law = g.met.S.Shelf in
    let k = meaning sh.model plan in
    let shelf = shelf_of sh.model law.begins_empty law.changes_by_effect law.same_without_effect law.made_by_effect law.begins_within law.grows_within law.widens law.one_spelling plan in
    let old = c.args.self.now in
    let no = not_begun move_refusal _ _ c.in_ok-made.field-0 c.in-Err.refused c.in-Err.is c.in_ok-made.ensures.refused c.in_ok-made.ensures.same in
    refused_move k g.R.Records.records sh.model.within_limits old events c.args.from c.args.to comes sh.model.within sh.model.applied shelf c.begin_move.new.self c.reserve.new.self c.in_ok-made.ensures.setup no.1 c.reserve.ensures.ends c.reserve.ensures.lists
    c.in-Err.refused no.0
