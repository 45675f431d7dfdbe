-- No step is due, the source is told to freeze, or the move ends in a row that is told.
use Rattle.std.proofs.Common.{refl}
use Rattle.partition_protocol.specs.Service.{advance_of}
use Rattle.partition_protocol.specs.Events.{Advance}
use Rattle.table_service.specs.Services.{service_of, service_number}
use Rattle.partition_world.specs.declared.event.Happened.TheVariants.{Done, RowMade}
use Rattle.grid_base.specs.Shelves.{meaning}
use Rattle.partition_world.specs.Worlds.{run_of}
use Rattle.partition_world.proofs.ShelfLaws.{shelf_of}
use Rattle.partition_world.proofs.ServiceSteps.{row_room, few_sent, stands_run, step_few, step_none, step_freezes, step_makes, freezes_some, makes_some, served_step, no_step}
use Rattle.partition_world.proofs.world.World.advance.Goals as goal

pub advance-requires : goal.advance-requires
advance-requires g c =
    let sh = g.S.Shelf in
    let k = meaning sh.model c.requires.0 in
    row_room k g.R.Records.records sh.model.within_limits c.args.self.now c.requires.1 _ c.requires.2

pub stand-requires : goal.stand-requires
stand-requires g c =
    let sh = g.S.Shelf in
    let k = meaning sh.model c.requires.0 in
    let old = c.args.self.now in
    let s = service_of old.service in
    let served = served_step k g.R.Records.records sh.model.within_limits old c.requires.1 c.requires.2 (freezes_some c.in_ok-step.step.outcome (advance_of s) c.in_ok-step.ensures.advanced c.in-Freezing.is) in
    few_sent k g.R.Records.records sh.model.within_limits old c.requires.1 Advance c.requires.2 _ _ _ _ served c.in_ok-step.step.out c.in_ok-step.ensures.told (step_few (service_number old.service) (advance_of s) s)
    c.reserve.new.self c.reserve.ensures.ends c.in_ok-reserve.ensures.ok

pub stand-requires-in-Row : goal.stand-requires-in-Row
stand-requires-in-Row g c =
    let sh = g.S.Shelf in
    let k = meaning sh.model c.requires.0 in
    let old = c.args.self.now in
    let s = service_of old.service in
    let served = served_step k g.R.Records.records sh.model.within_limits old c.requires.1 c.requires.2 (makes_some c.in_ok-step.step.outcome c.in-Row.version (advance_of s) c.in_ok-step.ensures.advanced c.in-Row.is) in
    few_sent k g.R.Records.records sh.model.within_limits old c.requires.1 Advance c.requires.2 _ _ _ _ served c.in_ok-step.step.out c.in_ok-step.ensures.told (step_few (service_number old.service) (advance_of s) s)
    c.reserve.new.self c.reserve.ensures.ends c.in_ok-reserve.ensures.ok

pub returns-in-Nothing-clause-ok : goal.returns-in-Nothing-clause-ok
returns-in-Nothing-clause-ok g c plan events comes =
    let sh = g.S.Shelf in
    let law = g.met.S.Shelf in
    let k = meaning sh.model plan in
    let shelf = shelf_of sh.model law.begins_empty law.changes_by_effect law.same_without_effect law.made_by_effect law.begins_within law.grows_within law.widens law.one_spelling plan in
    let old = c.args.self.now in
    let ok = c.in_ok-step.ensures in
    no_step k g.R.Records.records sh.model.within_limits old events comes sh.model.within sh.model.applied shelf c.advance.new.self c.reserve.new.self ok.setup ok.service c.reserve.ensures.ends c.reserve.ensures.lists
    (step_none c.in_ok-step.step.outcome (advance_of (service_of old.service)) ok.advanced c.in-Nothing.is)

pub returns-in-Freezing-clause-ok : goal.returns-in-Freezing-clause-ok
returns-in-Freezing-clause-ok g c plan events comes =
    let sh = g.S.Shelf in
    let law = g.met.S.Shelf in
    let k = meaning sh.model plan in
    let shelf = shelf_of sh.model law.begins_empty law.changes_by_effect law.same_without_effect law.made_by_effect law.begins_within law.grows_within law.widens law.one_spelling plan in
    let old = c.args.self.now in
    let s = service_of old.service in
    let ok = c.in_ok-step.ensures in
    let served = served_step k g.R.Records.records sh.model.within_limits old events comes (freezes_some c.in_ok-step.step.outcome (advance_of s) ok.advanced c.in-Freezing.is) in
    stands_run k g.R.Records.records sh.model.within_limits old events Advance comes _ _ _ _ served c.in_ok-step.step.out ok.told sh.model.within sh.model.applied shelf
    c.reserve.new.self c.reserve.ensures.ends c.reserve.ensures.lists c.advance.new.self ok.setup ok.service old.recorder (run_of k old events).recorded comes.stands.agrees.recorded refl
    c.stand.new.self c.stand.ensures.recorder c.stand.ensures.links c.stand.ensures.ends c.stand.ensures.rest Done
    (step_freezes c.in_ok-step.step.outcome (advance_of s) ok.advanced c.in-Freezing.is)

pub returns-in-Row-clause-ok : goal.returns-in-Row-clause-ok
returns-in-Row-clause-ok g c plan events comes =
    let sh = g.S.Shelf in
    let law = g.met.S.Shelf in
    let k = meaning sh.model plan in
    let shelf = shelf_of sh.model law.begins_empty law.changes_by_effect law.same_without_effect law.made_by_effect law.begins_within law.grows_within law.widens law.one_spelling plan in
    let old = c.args.self.now in
    let s = service_of old.service in
    let ok = c.in_ok-step.ensures in
    let served = served_step k g.R.Records.records sh.model.within_limits old events comes (makes_some c.in_ok-step.step.outcome c.in-Row.version (advance_of s) ok.advanced c.in-Row.is) in
    stands_run k g.R.Records.records sh.model.within_limits old events Advance comes _ _ _ _ served c.in_ok-step.step.out ok.told sh.model.within sh.model.applied shelf
    c.reserve.new.self c.reserve.ensures.ends c.reserve.ensures.lists c.advance.new.self ok.setup ok.service old.recorder (run_of k old events).recorded comes.stands.agrees.recorded refl
    c.stand-in-Row.new.self c.stand-in-Row.ensures.recorder c.stand-in-Row.ensures.links c.stand-in-Row.ensures.ends c.stand-in-Row.ensures.rest (RowMade c.in-Row.version)
    (step_makes c.in_ok-step.step.outcome c.in-Row.version (advance_of s) ok.advanced c.in-Row.is)
