-- The service sends its row and a freeze again, and nothing else changes.
use Rattle.std.proofs.Common.{refl}
use Rattle.partition_protocol.specs.Events.{Resend}
use Rattle.partition_world.specs.declared.event.Happened.TheVariants.{Done}
use Rattle.grid_base.specs.Shelves.{meaning}
use Rattle.partition_world.proofs.ShelfLaws.{shelf_of}
use Rattle.partition_world.proofs.ServiceSteps.{few_sent, served_run, served_again, again_few, told_same}
use Rattle.partition_world.proofs.world.World.resend_service.Goals as goal

pub send_all-requires : goal.send_all-requires
send_all-requires g c =
    let sh = g.S.Shelf in
    let k = meaning sh.model c.requires.0 in
    let old = c.args.self.now in
    let served = served_again k g.R.Records.records sh.model.within_limits old c.requires.1 c.requires.2 in
    few_sent k g.R.Records.records sh.model.within_limits old c.requires.1 (Resend old.members) c.requires.2 _ _ _ _ served c.into_vec.result.items (told_same c.in_ok-out.out c.into_vec.result.items _ c.into_vec.ensures c.in_ok-out.ensures)
    (again_few k g.R.Records.records sh.model.within_limits old c.requires.1 c.requires.2) c.reserve.new.self c.reserve.ensures.ends c.in_ok-reserve.ensures.ok

pub returns-clause-ok : goal.returns-clause-ok
returns-clause-ok g c plan events comes =
    let sh = g.S.Shelf in
    let law = g.met.S.Shelf in
    let k = meaning sh.model plan in
    let shelf = shelf_of sh.model law.begins_empty law.changes_by_effect law.same_without_effect law.made_by_effect law.begins_within law.grows_within law.widens law.one_spelling plan in
    let old = c.args.self.now in
    let served = served_again k g.R.Records.records sh.model.within_limits old events comes in
    served_run k g.R.Records.records sh.model.within_limits old events (Resend old.members) comes _ _ _ _ served c.into_vec.result.items (told_same c.in_ok-out.out c.into_vec.result.items _ c.into_vec.ensures c.in_ok-out.ensures)
    sh.model.within sh.model.applied shelf c.reserve.new.self c.reserve.ensures.ends c.reserve.ensures.lists old.service refl refl
    (record old { links = c.send_all.new.self }) refl comes.stands.agrees.recorded c.send_all.ensures.lists c.send_all.ensures.ends Done refl
