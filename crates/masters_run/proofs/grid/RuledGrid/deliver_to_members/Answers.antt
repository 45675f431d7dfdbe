use Rattle.std.proofs.Common.{◌∙◌, Err, sym, ap, refl, arith}
use Rattle.replay_run.specs.Runs.{delivery_on}
use Rattle.replay_run.specs.declared.run_end.RunEnd.TheVariants.{InFlight}
use Rattle.replay_run.proofs.Asking.{handed_on}
use Rattle.masters_run.proofs.Delivering.{by_then, none_left, one_delivered, meets_full_at}
use Rattle.masters_run.proofs.FlowParts.{still_low, still_ruled, room_left, delivered_all}
use Rattle.masters_run.proofs.grid.RuledGrid.deliver_to_members.Goals as goal

pub returns-in_default-clause-ok : goal.returns-in_default-clause-ok
returns-in_default-clause-ok g c = λ settings s amid.
    let p = c.args.partition in
    let mid = c.loop-deliveries.self in
    let did = c.loop-deliveries.invariant.delivered settings s amid in
    none_left settings s p mid c.loop-deliveries.deliveries c.args.out.now.items c.loop-deliveries.out.items did
    (sym (c.link_to_member.ensures settings (by_then settings s p mid c.loop-deliveries.deliveries c.args.out.now.items c.loop-deliveries.out.items did) did.on.amid) ∙ c.in_default.is) c.args.most c.loop-deliveries.invariant.below

pub take-requires-clause-stands : goal.take-requires-clause-stands
take-requires-clause-stands g c =
    let may = c.requires.may in
    let p = c.args.partition in
    let mid = c.loop-deliveries.self in
    let number = c.loop-deliveries.deliveries in
    let did = c.loop-deliveries.invariant.delivered may.settings may.run may.amid in (
      may.settings,
      (by_then may.settings may.run p mid number c.args.out.now.items c.loop-deliveries.out.items did).run,
      did.on.amid.grid,
      room_left c.args.self.now mid p c.args.most number c.args.out.now.items c.loop-deliveries.out.items may did c.loop-deliveries-test.true,
    )

pub returns-in_err-take-clause-full : goal.returns-in_err-take-clause-full
returns-in_err-take-clause-full g c = λ settings s amid was.
    let may = c.requires.may in
    let p = c.args.partition in
    let mid = c.loop-deliveries.self in
    let number = c.loop-deliveries.deliveries in
    let first = c.args.out.now.items in
    let so_far = c.loop-deliveries.out.items in
    let did = c.loop-deliveries.invariant.delivered settings s amid in
    let now = by_then settings s p mid number first so_far did in
    let why = handed_on c.from_residual.result c.in_err-take.field-0.0 InFlight c.from_residual.ensures.1 was in
    meets_full_at settings s p mid number first so_far did c.in-Some.field-0 (sym (c.link_to_member.ensures settings now did.on.amid) ∙ c.in-Some.is)
    (still_low c.args.self.now mid p c.args.most number first so_far may s amid did) (still_ruled c.args.self.now mid p c.args.most number first so_far may s amid did) may.placed c.args.most c.loop-deliveries-test.true
    (delivery_on c.in-Some.field-0) refl (c.in_err-take.ensures.full settings now.run did.on.amid.grid (ap Err why))

pub loop-deliveries-preserved : goal.loop-deliveries-preserved
loop-deliveries-preserved g c = record {
  below = omega (arith, c.loop-deliveries-test.true);
  delivered = λ settings s amid.
      (let may = c.requires.may in
      let p = c.args.partition in
      let mid = c.loop-deliveries.self in
      let number = c.loop-deliveries.deliveries in
      let first = c.args.out.now.items in
      let so_far = c.loop-deliveries.out.items in
      let did = c.loop-deliveries.invariant.delivered settings s amid in
      let now = by_then settings s p mid number first so_far did in
      one_delivered settings s p mid number first so_far did c.in-Some.field-0 (sym (c.link_to_member.ensures settings now did.on.amid) ∙ c.in-Some.is)
      (still_low c.args.self.now mid p c.args.most number first so_far may s amid did) (still_ruled c.args.self.now mid p c.args.most number first so_far may s amid did) may.placed
      (record mid { grid = c.take.new.self }) refl (delivery_on c.in-Some.field-0) refl c.in_ok-take.field-0 c.take.new.out.items (c.in_ok-take.ensures.ok settings now.run did.on.amid.grid));
}

pub returns-clause-ok : goal.returns-clause-ok
returns-clause-ok g c = λ settings s amid.
    delivered_all s c.loop-deliveries.self c.args.partition c.loop-deliveries.deliveries c.args.out.now.items c.loop-deliveries.out.items (c.loop-deliveries.invariant.delivered settings s amid) c.args.most c.loop-deliveries.invariant.below
    (omega (arith, c.loop-deliveries-test.false))
