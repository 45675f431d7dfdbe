-- The target takes the lead over, and nothing is sent.
use Rattle.std.proofs.Common.{[], refl, subst, cond}
use Rattle.partition_table.specs.declared.Row.{Row}
use Rattle.partition_protocol.specs.Events.{BeginHandover}
use Rattle.partition_world.specs.declared.event.Happened.TheVariants.{Done}
use Rattle.partition_world.specs.declared.world.World.{World}
use Rattle.grid_base.specs.Shelves.{meaning}
use Rattle.partition_world.specs.Worlds.{run_of}
use Rattle.partition_world.proofs.ShelfLaws.{shelf_of}
use Rattle.partition_world.proofs.ServiceSteps.{stands_run, silent_lists, none_told, served_handover, refused_handover}
use Rattle.partition_world.proofs.world.World.begin_handover.Goals as goal

pub returns-in-Ok-clause-ok : goal.returns-in-Ok-clause-ok
returns-in-Ok-clause-ok g c plan events comes =
    let sh = g.S.Shelf in
    let law = g.met.S.Shelf in
    let k = meaning sh.model plan in
    let shelf = shelf_of sh.model law.begins_empty law.changes_by_effect law.same_without_effect law.made_by_effect law.begins_within law.grows_within law.widens law.one_spelling plan in
    let old = c.args.self.now in
    let ok = c.in-Ok.ensures in
    let new : World _ _ _ _ = record old { service = c.begin_handover.new.self; recorder = c.stand.new.self } in
    let served = served_handover k g.R.Records.records sh.model.within_limits old events c.args.from c.args.to comes ok.refused in
    stands_run k g.R.Records.records sh.model.within_limits old events (BeginHandover c.args.from c.args.to) comes _ _ _ _ served [] none_told sh.model.within sh.model.applied shelf
    old.links refl (λ f t. refl) c.begin_handover.new.self ok.setup ok.service old.recorder (run_of k old events).recorded comes.stands.agrees.recorded refl
    new (λ r kept. subst (λ (row : Row). g.R.Records.records new.recorder (record r { standing = cond row.lost r.standing row })) c.row.ensures (c.stand.ensures r kept))
    (silent_lists old.links old.members) refl refl Done refl

pub returns-in-Err-clause-ok : goal.returns-in-Err-clause-ok
returns-in-Err-clause-ok g c plan events comes =
    let sh = g.S.Shelf in
    let law = g.met.S.Shelf in
    let k = meaning sh.model plan in
    let shelf = shelf_of sh.model law.begins_empty law.changes_by_effect law.same_without_effect law.made_by_effect law.begins_within law.grows_within law.widens law.one_spelling plan in
    let no = c.in-Err.ensures in
    refused_handover k g.R.Records.records sh.model.within_limits c.args.self.now events c.args.from c.args.to comes sh.model.within sh.model.applied shelf c.begin_handover.new.self no.setup no.err
    c.in-Err.refused no.refused
