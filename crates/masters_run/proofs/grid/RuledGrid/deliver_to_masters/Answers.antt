use Rattle.std.proofs.Common.{◌∙◌, Err, sym, ap, arith}
use Rattle.replay_run.specs.declared.run_end.RunEnd.TheVariants.{InFlight}
use Rattle.replay_run.proofs.Asking.{handed_on}
use Rattle.masters_run.proofs.FlowParts.{may_hand, handed_all}
use Rattle.masters_run.proofs.HandingOver.{handed_by_then, none_left, one_handed, gives_up_at}
use Rattle.masters_run.proofs.MastersAsked.{are_there, within_all, masters_read}
use Rattle.masters_run.proofs.RuledMasters.{events_of, next_so}
use Rattle.masters_run.proofs.grid.RuledGrid.deliver_to_masters.Goals as goal

pub index-requires : goal.index-requires
index-requires g c =
    let may = c.requires.may in
    let p = c.args.partition in
    let mid = c.loop-deliveries.self in
    let number = c.loop-deliveries.deliveries in
    let did = c.loop-deliveries.invariant.handed may.settings may.run may.amid in
    let ask = may_hand c.args.self.now mid p c.args.most number c.args.out.now.items c.loop-deliveries.out.items may did c.loop-deliveries-test.true in
    let within = within_all ask.settings mid.masters.items ask.run p (are_there _ mid p ask ask.settings ask.run ask.amid) in
    omega (arith, within, c.from.ensures, mid.masters.ok.0)

pub returns-in_default-clause-ok : goal.returns-in_default-clause-ok
returns-in_default-clause-ok g c = λ settings s amid.
    let may = c.requires.may in
    let p = c.args.partition in
    let mid = c.loop-deliveries.self in
    let number = c.loop-deliveries.deliveries in
    let first = c.args.out.now.items in
    let so_far = c.loop-deliveries.out.items in
    let ask = may_hand c.args.self.now mid p c.args.most number first so_far may (c.loop-deliveries.invariant.handed may.settings may.run may.amid) c.loop-deliveries-test.true in
    let did = c.loop-deliveries.invariant.handed settings s amid in
    let now = handed_by_then settings s p mid number first so_far did in
    let are = masters_read _ mid p ask settings now did.on.amid c.from.result c.index.result.now c.from.ensures c.index.ensures in
    none_left settings s p mid number first so_far did
    (sym (next_so are c.links.result.now (c.links.ensures.links (events_of are) are.stands) (c.links.ensures.ends (events_of are) are.stands)) ∙ sym c.next_link-next.ensures ∙ c.in_default.is) c.args.most c.loop-deliveries.invariant.below

pub hand_over-requires : goal.hand_over-requires
hand_over-requires g c =
    let may = c.requires.may in
    may_hand c.args.self.now c.loop-deliveries.self c.args.partition c.args.most c.loop-deliveries.deliveries c.args.out.now.items c.loop-deliveries.out.items may
    (c.loop-deliveries.invariant.handed may.settings may.run may.amid) c.loop-deliveries-test.true

pub returns-in_err-hand_over-clause-full : goal.returns-in_err-hand_over-clause-full
returns-in_err-hand_over-clause-full g c = λ settings s amid was.
    let may = c.requires.may in
    let p = c.args.partition in
    let mid = c.loop-deliveries.self in
    let number = c.loop-deliveries.deliveries in
    let first = c.args.out.now.items in
    let so_far = c.loop-deliveries.out.items in
    let ask = may_hand c.args.self.now mid p c.args.most number first so_far may (c.loop-deliveries.invariant.handed may.settings may.run may.amid) c.loop-deliveries-test.true in
    let did = c.loop-deliveries.invariant.handed settings s amid in
    let now = handed_by_then settings s p mid number first so_far did in
    let are = masters_read _ mid p ask settings now did.on.amid c.from.result c.index.result.now c.from.ensures c.index.ensures in
    let some = sym (next_so are c.links.result.now (c.links.ensures.links (events_of are) are.stands) (c.links.ensures.ends (events_of are) are.stands)) ∙ sym c.next_link-next.ensures ∙ c.in-Some.is in
    let why = handed_on c.from_residual.result c.in_err-hand_over.field-0.0 InFlight c.from_residual.ensures.1 was in
    gives_up_at settings s p mid number first so_far did c.in-Some.link some c.args.most c.loop-deliveries-test.true (c.in_err-hand_over.ensures.full settings now did.on.amid (ap Err why))

pub loop-deliveries-preserved : goal.loop-deliveries-preserved
loop-deliveries-preserved g c = record {
  below = omega (arith, c.loop-deliveries-test.true);
  handed = λ settings s amid.
      (let may = c.requires.may in
      let p = c.args.partition in
      let mid = c.loop-deliveries.self in
      let number = c.loop-deliveries.deliveries in
      let first = c.args.out.now.items in
      let so_far = c.loop-deliveries.out.items in
      let ask = may_hand c.args.self.now mid p c.args.most number first so_far may (c.loop-deliveries.invariant.handed may.settings may.run may.amid) c.loop-deliveries-test.true in
      let did = c.loop-deliveries.invariant.handed settings s amid in
      let now = handed_by_then settings s p mid number first so_far did in
      let are = masters_read _ mid p ask settings now did.on.amid c.from.result c.index.result.now c.from.ensures c.index.ensures in
      let some = sym (next_so are c.links.result.now (c.links.ensures.links (events_of are) are.stands) (c.links.ensures.ends (events_of are) are.stands)) ∙ sym c.next_link-next.ensures ∙ c.in-Some.is in
      one_handed settings s p mid number first so_far did c.in-Some.link some c.hand_over.new.self c.hand_over.new.out.items (c.in_ok-hand_over.ensures.ok settings now did.on.amid).on);
}

pub returns-clause-ok : goal.returns-clause-ok
returns-clause-ok g c = λ settings s amid.
    handed_all s c.loop-deliveries.self c.args.partition c.loop-deliveries.deliveries c.args.out.now.items c.loop-deliveries.out.items (c.loop-deliveries.invariant.handed settings s amid) c.args.most c.loop-deliveries.invariant.below
    (omega (arith, c.loop-deliveries-test.false))
