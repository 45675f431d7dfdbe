-- The reopening is recorded with the trail so far, and its row is told; or it is refused.
use Rattle.std.proofs.Common.{refl, ap}
use Rattle.partition_protocol.specs.Events.{Reopen, RowMadeAt}
use Rattle.table_service.specs.Refusals.{reopen_refusal}
use Rattle.table_service.specs.Services.{service_of, service_number}
use Rattle.partition_world.specs.declared.event.Happened.TheVariants.{RowMade}
use Rattle.grid_base.specs.Shelves.{meaning}
use Rattle.partition_world.specs.Worlds.{run_of}
use Rattle.partition_world.proofs.ShelfLaws.{shelf_of}
use Rattle.partition_world.proofs.ServiceSteps.{begun, not_begun, row_room, few_sent, tells_few, stands_run, with_opening, served_opening, opening_recorded, refused_opening}
use Rattle.partition_world.proofs.world.World.reopen.Goals as goal

pub reopen-requires : goal.reopen-requires
reopen-requires g c =
    let sh = g.S.Shelf in
    let k = meaning sh.model c.requires.0 in
    row_room k g.R.Records.records sh.model.within_limits c.args.self.now c.requires.1 _ c.requires.2

pub reopen-requires-in-Ok : goal.reopen-requires-in-Ok
reopen-requires-in-Ok g c = (c.leading_pair-leader.result, c.in_ok-places.ensures.reopens)

pub stand-requires : goal.stand-requires
stand-requires g c =
    let sh = g.S.Shelf in
    let k = meaning sh.model c.requires.0 in
    let old = c.args.self.now in
    let ok = begun reopen_refusal (service_number old.service) (service_of c.reopen.new.self) _ _ c.in_ok-made.field-0 c.in-Ok.made c.in-Ok.is c.in_ok-made.ensures.refused c.in_ok-made.ensures.service c.in_ok-made.ensures.made in
    let made = service_of c.reopen.new.self in
    let served = served_opening k g.R.Records.records sh.model.within_limits old c.requires.1 c.requires.2 made ok.refused ok.service in
    few_sent k g.R.Records.records sh.model.within_limits old c.requires.1 Reopen c.requires.2 _ _ _ _ served c.in-Ok.made.out ok.told.told (tells_few (service_number old.service) made)
    c.reserve.new.self c.reserve.ensures.ends c.in_ok-reserve.ensures.ok

pub returns-in-Ok-clause-ok : goal.returns-in-Ok-clause-ok
returns-in-Ok-clause-ok g c plan events comes =
    let sh = g.S.Shelf in
    let law = g.met.S.Shelf in
    let k = meaning sh.model plan in
    let shelf = shelf_of sh.model law.begins_empty law.changes_by_effect law.same_without_effect law.made_by_effect law.begins_within law.grows_within law.widens law.one_spelling plan in
    let old = c.args.self.now in
    let w = run_of k old events in
    let ok = begun reopen_refusal (service_number old.service) (service_of c.reopen.new.self) _ _ c.in_ok-made.field-0 c.in-Ok.made c.in-Ok.is c.in_ok-made.ensures.refused c.in_ok-made.ensures.service c.in_ok-made.ensures.made in
    let made = service_of c.reopen.new.self in
    let served = served_opening k g.R.Records.records sh.model.within_limits old events comes made ok.refused ok.service in
    let kept = c.reopening_places.ensures.records w.recorded comes.stands.agrees.recorded in
    let leader = c.leading_pair-leader.result in
    let recorded = opening_recorded k g.R.Records.records sh.model.within_limits old events comes c.reopen-in-Ok.new.self c.in-Ok.made.outcome made leader ok.told.version ok.service
    (c.leading_pair-leader.ensures w.recorded comes.stands.agrees.recorded) (c.reopen-in-Ok.ensures w.recorded leader c.in_ok-places.ensures.reopens kept) in
    stands_run k g.R.Records.records sh.model.within_limits old events Reopen comes _ _ _ _ served c.in-Ok.made.out ok.told.told sh.model.within sh.model.applied shelf
    c.reserve.new.self c.reserve.ensures.ends c.reserve.ensures.lists c.reopen.new.self c.in_ok-made.ensures.setup refl c.reopen-in-Ok.new.self (with_opening k g.R.Records.records sh.model.within_limits old events comes) recorded refl
    c.stand.new.self c.stand.ensures.recorder c.stand.ensures.links c.stand.ensures.ends c.stand.ensures.rest (RowMade c.in-Ok.made.outcome) (ap RowMadeAt ok.told.version)

pub returns-in-Err-clause-ok : goal.returns-in-Err-clause-ok
returns-in-Err-clause-ok g c plan events comes =
    let sh = g.S.Shelf in
    let law = g.met.S.Shelf in
    let k = meaning sh.model plan in
    let shelf = shelf_of sh.model law.begins_empty law.changes_by_effect law.same_without_effect law.made_by_effect law.begins_within law.grows_within law.widens law.one_spelling plan in
    let old = c.args.self.now in
    let w = run_of k old events in
    let no = not_begun reopen_refusal _ _ c.in_ok-made.field-0 c.in-Err.refused c.in-Err.is c.in_ok-made.ensures.refused c.in_ok-made.ensures.same in
    refused_opening k g.R.Records.records sh.model.within_limits old events comes sh.model.within sh.model.applied shelf c.reopen.new.self c.reserve.new.self c.in_ok-made.ensures.setup no.1 c.reserve.ensures.ends c.reserve.ensures.lists
    c.reopening_places.new.self (c.reopening_places.ensures.records w.recorded comes.stands.agrees.recorded) c.in-Err.refused no.0
