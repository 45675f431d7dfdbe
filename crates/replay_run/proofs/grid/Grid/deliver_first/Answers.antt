use Rattle.std.proofs.Common.{◌∙◌, Err, sym, ap, arith}
use Rattle.partition_world.specs.Events.{event_of}
use Rattle.partition_world.specs.LinkOrder.{next_link}
use Rattle.replay_run.specs.declared.run_end.RunEnd.TheVariants.{InFlight}
use Rattle.replay_run.proofs.Asking.{handed_on, world_within, told_of}
use Rattle.replay_run.proofs.Flowing.{so_far, none_delivered, delivered_room, one_delivered, meets_one, none_next, all_flowed}
use Rattle.replay_run.proofs.grid.Grid.deliver_first.Goals as goal
use Rattle.call_engine.specs.Env.{settings_of}

pub deliveries-init : goal.deliveries-init
deliveries-init g c = record { below = omega arith; delivered = λ settings r amid. none_delivered r c.args.partition c.args.self.now c.args.out.now.items amid }

pub index-requires : goal.index-requires
index-requires g c =
    let did = c.deliveries.invariant.delivered c.requires.stands.0 c.requires.stands.1 c.requires.stands.2 in
    let now = so_far c.requires.stands.1 c.args.partition c.deliveries.self c.deliveries.deliveries c.args.out.now.items c.deliveries.out.items did in
    let within = world_within c.deliveries.self now did.on.on.amid.holds c.args.partition c.from.result c.requires.placed c.from.ensures in
    omega (arith, within, c.deliveries.self.worlds.ok.0)

pub returns-in_default-clause-ok : goal.returns-in_default-clause-ok
returns-in_default-clause-ok g c = λ settings r amid.
    let did = c.deliveries.invariant.delivered settings r amid in
    let now = so_far r c.args.partition c.deliveries.self c.deliveries.deliveries c.args.out.now.items c.deliveries.out.items did in
    none_next r c.args.partition c.deliveries.self c.deliveries.deliveries c.args.out.now.items c.deliveries.out.items did c.args.most c.deliveries.invariant.below
    (sym (told_of _ c.deliveries.self now did.on.on.amid.holds c.args.partition c.from.result c.requires.placed c.from.ensures c.index.result.now c.index.ensures next_link c.next_link-next.result (c.next_link-next.ensures (settings_of _ c.deliveries.self.env)))
    ∙ c.in_default.is)

pub take-requires-clause-stands : goal.take-requires-clause-stands
take-requires-clause-stands g c =
    let did = c.deliveries.invariant.delivered c.requires.stands.0 c.requires.stands.1 c.requires.stands.2 in
    let now = so_far c.requires.stands.1 c.args.partition c.deliveries.self c.deliveries.deliveries c.args.out.now.items c.deliveries.out.items did in
    (c.requires.stands.0, now, did.on.on.amid, delivered_room c.requires.stands.1 c.args.partition c.deliveries.self c.deliveries.deliveries c.args.out.now.items c.deliveries.out.items did c.args.most c.requires.stands.3 c.deliveries-test.true)

pub returns-in_err-take-clause-full : goal.returns-in_err-take-clause-full
returns-in_err-take-clause-full g c = λ settings r amid was.
    let did = c.deliveries.invariant.delivered settings r amid in
    let now = so_far r c.args.partition c.deliveries.self c.deliveries.deliveries c.args.out.now.items c.deliveries.out.items did in
    let next = sym (told_of _ c.deliveries.self now did.on.on.amid.holds c.args.partition c.from.result c.requires.placed c.from.ensures c.index.result.now c.index.ensures next_link c.next_link-next.result (c.next_link-next.ensures (settings_of _ c.deliveries.self.env))) ∙ c.in-Some.is in
    let why = handed_on c.from_residual.result c.in_err-take.field-0.0 InFlight c.from_residual.ensures.1 was in
    meets_one r c.args.partition c.deliveries.self c.deliveries.deliveries c.args.out.now.items c.deliveries.out.items did c.in-Some.link next c.args.most c.deliveries-test.true (event_of c.delivery_on.result) c.delivery_on.ensures
    (c.in_err-take.ensures.full settings now did.on.on.amid (ap Err why))

pub deliveries-preserved : goal.deliveries-preserved
deliveries-preserved g c = record {
  below = omega (arith, c.deliveries-test.true);
  delivered = λ settings r amid.
      (let did = c.deliveries.invariant.delivered settings r amid in
      let now = so_far r c.args.partition c.deliveries.self c.deliveries.deliveries c.args.out.now.items c.deliveries.out.items did in
      let next = sym (told_of _ c.deliveries.self now did.on.on.amid.holds c.args.partition c.from.result c.requires.placed c.from.ensures c.index.result.now c.index.ensures next_link c.next_link-next.result (c.next_link-next.ensures (settings_of _ c.deliveries.self.env))) ∙ c.in-Some.is in
      one_delivered r c.args.partition c.deliveries.self c.deliveries.deliveries c.args.out.now.items c.deliveries.out.items did c.in-Some.link next c.take.new.self (event_of c.delivery_on.result) c.delivery_on.ensures
      c.in_ok-take.field-0 c.take.new.out.items (c.in_ok-take.ensures.ok settings now did.on.on.amid));
}

pub returns-clause-ok : goal.returns-clause-ok
returns-clause-ok g c = λ settings r amid.
    all_flowed r c.args.partition c.deliveries.self c.deliveries.deliveries c.args.out.now.items c.deliveries.out.items (c.deliveries.invariant.delivered settings r amid) c.args.most c.deliveries.invariant.below (omega (arith, c.deliveries-test.false))
