-- The service takes the message, and the recorder stands by its row where a member has joined.
use Rattle.std.proofs.Common.{sym, subst, inl, inr, refl, if◌then◌else◌}
use Rattle.partition_table.specs.declared.Row.{Row}
use Rattle.partition_protocol.specs.Events.{Deliver}
use Rattle.partition_world.specs.declared.event.Happened.TheVariants as happened
use Rattle.grid_base.specs.Shelves.{meaning}
use Rattle.partition_world.specs.Worlds.{HasRun, run_of}
use Rattle.partition_world.proofs.ServiceTakes.{message_at, service_run}
use Rattle.partition_world.proofs.ShelfLaws.{shelf_of}
use Rattle.partition_world.proofs.world.World.deliver_to_service.Goals as goal

pub returns-clause-ok : goal.returns-clause-ok
returns-clause-ok g c plan events comes =
    let S = g.S.Shelf in
    let met = g.met.S.Shelf in
    let shelf = shelf_of S.model
    met.begins_empty met.changes_by_effect met.same_without_effect met.made_by_effect met.begins_within met.grows_within met.widens met.one_spelling plan in
    let k = meaning S.model plan in
    let old = c.args.self.now in
    let recorded = (run_of k old events).recorded in
    let msg = message_at _ _ S.model.within_limits S.model.within S.model.applied shelf old events c.args.from old.members c.args.place comes _ refl c.requires.there in
    let says = c.in_ok-message.ensures plan events comes msg.0 msg.1 in
    let took = c.take-took.ensures in
    elim c.match-message.branch [
      | goal.in-Joined v ↦ subst (λ new. HasRun k g.R.Records.records old new events (Deliver c.args.from old.members c.args.place) (happened.Took c.take-took.result)) (sym v.self-is)
          (service_run _ _ S.model.within_limits S.model.within S.model.applied shelf old events c.args.from old.members c.args.place comes msg.0 msg.1 _ c.lose.ensures.lists c.lose.ensures.ends
          comes.stands.agrees.members c.in_ok-message.message says c.take-took.result took.took took.service
          (inl (
            v.in-Joined.version,
            v.in-Joined.member,
            v.in-Joined.is,
            subst (λ (row : Row). g.R.Records.records v.stand.new.self (record recorded { standing = if row.lost then recorded.standing else row })) v.row.ensures (v.stand.ensures recorded comes.stands.agrees.recorded),
          ))
          took.setup refl refl refl)
      | goal.in_default v ↦ subst (λ new. HasRun k g.R.Records.records old new events (Deliver c.args.from old.members c.args.place) (happened.Took c.take-took.result)) (sym v.self-is)
          (service_run _ _ S.model.within_limits S.model.within S.model.applied shelf old events c.args.from old.members c.args.place comes msg.0 msg.1 _ c.lose.ensures.lists c.lose.ensures.ends
          comes.stands.agrees.members c.in_ok-message.message says c.take-took.result took.took took.service (inr (v.in_default.not-Joined, comes.stands.agrees.recorded)) took.setup refl refl refl)
    ]
