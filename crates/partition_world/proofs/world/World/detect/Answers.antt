-- The member is detected, and a row that it leaves is told.
use Rattle.std.proofs.Common.{refl}
use Rattle.partition_table.specs.Rows.{is_in}
use Rattle.partition_protocol.specs.Service.{detecting}
use Rattle.partition_protocol.specs.Events.{Detect}
use Rattle.table_service.specs.Services.{service_of, service_number}
use Rattle.partition_world.specs.declared.event.Happened.TheVariants.{RowMade, Done}
use Rattle.grid_base.specs.Shelves.{meaning}
use Rattle.partition_world.specs.Worlds.{run_of}
use Rattle.partition_world.proofs.ShelfLaws.{shelf_of}
use Rattle.partition_world.proofs.ServiceSteps.{row_room, few_sent, stands_run, loss_few, loss_made, loss_done, served_loss}
use Rattle.partition_world.proofs.world.World.detect.Goals as goal

pub detect-requires : goal.detect-requires
detect-requires g c =
    let sh = g.S.Shelf in
    let k = meaning sh.model c.requires.0 in
    row_room k g.R.Records.records sh.model.within_limits c.args.self.now c.requires.1 _ c.requires.2

pub stand-requires : goal.stand-requires
stand-requires g c =
    let sh = g.S.Shelf in
    let k = meaning sh.model c.requires.0 in
    let old = c.args.self.now in
    let served = served_loss k g.R.Records.records sh.model.within_limits old c.requires.1 c.args.member c.requires.2 c.is_unnoticed.result c.is_unnoticed.ensures c.if-not-is_unnoticed.false in
    few_sent k g.R.Records.records sh.model.within_limits old c.requires.1 (Detect c.args.member) c.requires.2 _ _ _ _ served c.in_ok-made.made.out c.in_ok-made.ensures.told
    (loss_few (service_number old.service) c.args.member (service_of old.service)) c.reserve.new.self c.reserve.ensures.ends c.in_ok-reserve.ensures.ok

pub returns-in-Some-clause-ok : goal.returns-in-Some-clause-ok
returns-in-Some-clause-ok g c plan events comes =
    let sh = g.S.Shelf in
    let law = g.met.S.Shelf in
    let k = meaning sh.model plan in
    let shelf = shelf_of sh.model law.begins_empty law.changes_by_effect law.same_without_effect law.made_by_effect law.begins_within law.grows_within law.widens law.one_spelling plan in
    let old = c.args.self.now in
    let s = service_of old.service in
    let ok = c.in_ok-made.ensures in
    let served = served_loss k g.R.Records.records sh.model.within_limits old events c.args.member comes c.is_unnoticed.result c.is_unnoticed.ensures c.if-not-is_unnoticed.false in
    stands_run k g.R.Records.records sh.model.within_limits old events (Detect c.args.member) comes _ _ _ _ served c.in_ok-made.made.out ok.told sh.model.within sh.model.applied shelf
    c.reserve.new.self c.reserve.ensures.ends c.reserve.ensures.lists c.detect.new.self ok.setup ok.service old.recorder (run_of k old events).recorded comes.stands.agrees.recorded refl
    c.stand.new.self c.stand.ensures.recorder c.stand.ensures.links c.stand.ensures.ends c.stand.ensures.rest (RowMade c.in-Some.version)
    (loss_made c.in_ok-made.made.outcome c.in-Some.version (detecting c.args.member s).row.version (is_in s.row c.args.member) ok.version c.in-Some.is)

pub returns-in-None-clause-ok : goal.returns-in-None-clause-ok
returns-in-None-clause-ok g c plan events comes =
    let sh = g.S.Shelf in
    let law = g.met.S.Shelf in
    let k = meaning sh.model plan in
    let shelf = shelf_of sh.model law.begins_empty law.changes_by_effect law.same_without_effect law.made_by_effect law.begins_within law.grows_within law.widens law.one_spelling plan in
    let old = c.args.self.now in
    let s = service_of old.service in
    let ok = c.in_ok-made.ensures in
    let served = served_loss k g.R.Records.records sh.model.within_limits old events c.args.member comes c.is_unnoticed.result c.is_unnoticed.ensures c.if-not-is_unnoticed.false in
    stands_run k g.R.Records.records sh.model.within_limits old events (Detect c.args.member) comes _ _ _ _ served c.in_ok-made.made.out ok.told sh.model.within sh.model.applied shelf
    c.reserve.new.self c.reserve.ensures.ends c.reserve.ensures.lists c.detect.new.self ok.setup ok.service old.recorder (run_of k old events).recorded comes.stands.agrees.recorded refl
    c.stand.new.self c.stand.ensures.recorder c.stand.ensures.links c.stand.ensures.ends c.stand.ensures.rest Done
    (loss_done c.in_ok-made.made.outcome (detecting c.args.member s).row.version (is_in s.row c.args.member) ok.version c.in-None.is)
