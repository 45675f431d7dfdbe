use Rattle.std.proofs.Common.{◌≡◌, Err, ap, arith}
use Rattle.script_lang.specs.declared.line.Line.TheVariants.{FlowAll}
use Rattle.replay_run.specs.Runs.{partitions}
use Rattle.replay_run.specs.declared.run_end.RunEnd.TheVariants.{InFlight}
use Rattle.replay_run.proofs.Asking.{handed_on}
use Rattle.masters_run.specs.Runs.{counted}
use Rattle.masters_run.proofs.Delivering.{none_in, flowed_by_then, flowed_in_more, gives_up_in}
use Rattle.masters_run.proofs.FlowParts.{may_flow_more, flowed_at, all_ran, all_up}
use Rattle.masters_run.proofs.LineParts.{few_lines, counted_amid}
use Rattle.masters_run.proofs.grid.RuledGrid.run_flow_all.Goals as goal

pub loop-partition-init : goal.loop-partition-init
loop-partition-init g c = record {
  below = omega arith;
  flowed = λ settings s stands.
      none_in c.count.new.self (counted s) c.args.most c.new-messages.result.items (counted_amid c.args.self.now s stands c.count.new.self c.count.ensures.masters (c.count.ensures.amid settings s.run stands.grid));
}

pub deliver_to_members-requires-clause-may : goal.deliver_to_members-requires-clause-may
deliver_to_members-requires-clause-may g c =
    let all = c.args.self.now in
    let line = FlowAll c.args.most in
    let may = c.requires.may in
    let did = c.loop-partition.invariant.flowed may.settings may.run may.stands in
    may_flow_more all may.run may.stands (few_lines all c.args.number line may may.run may.stands) (c.requires.ruled may.settings may.run may.stands) c.loop-partition.self c.args.most c.loop-partition.partition c.loop-partition.deliveries
    c.new-messages.result.items c.loop-partition.messages.items did (omega (arith, c.loop-partition-test.true)) may.read.1

pub returns-in_err-deliveries-clause-full : goal.returns-in_err-deliveries-clause-full
returns-in_err-deliveries-clause-full g c = λ settings s stands was.
    let all = c.args.self.now in
    let most = c.args.most in
    let mid = c.loop-partition.self in
    let n = c.loop-partition.partition in
    let first = c.new-messages.result.items in
    let so_far = c.loop-partition.messages.items in
    let did = c.loop-partition.invariant.flowed settings s stands in
    let why = handed_on c.from_residual.result c.in_err-deliveries.field-0.0 InFlight c.from_residual.ensures.1 was in
    all_up all s stands (c.requires.ruled settings s stands) most
    (gives_up_in settings (counted s) most mid mid n c.loop-partition.deliveries first so_far did partitions (omega (arith, c.loop-partition-test.true))
    (c.in_err-deliveries.ensures.full settings (flowed_by_then settings (counted s) most mid mid n c.loop-partition.deliveries first so_far did) did.on.amid (ap Err why)))

pub loop-partition-preserved : goal.loop-partition-preserved
loop-partition-preserved g c = record {
  below = let more = c.in_ok-deliveries.ensures.most in let most = c.requires.may.read.1 in omega (arith, c.loop-partition.invariant.below, more, most);
  flowed = λ settings s stands.
      (let mid = c.loop-partition.self in
      let new = c.deliver_to_members.new.self in
      let n = c.loop-partition.partition in
      let first = c.new-messages.result.items in
      let so_far = c.loop-partition.messages.items in
      let did = c.loop-partition.invariant.flowed settings s stands in
      flowed_in_more settings (counted s) c.args.most mid new n c.loop-partition.deliveries first so_far did c.in_ok-deliveries.field-0 c.deliver_to_members.new.out.items
      (c.in_ok-deliveries.ensures.ok settings (flowed_by_then settings (counted s) c.args.most mid new n c.loop-partition.deliveries first so_far did) did.on.amid));
}

pub returns-clause-ok : goal.returns-clause-ok
returns-clause-ok g c = λ settings s stands.
    let all = c.args.self.now in
    let line = FlowAll c.args.most in
    let may = c.requires.may in
    let amid = counted_amid all s stands c.count.new.self c.count.ensures.masters (c.count.ensures.amid settings s.run stands.grid) in
    let ended : c.loop-partition.partition ≡ partitions = omega (arith, c.loop-partition-test.false, c.loop-partition.auto.partition-end) in
    all_ran all s stands (c.requires.ruled settings s stands) c.count.new.self amid (few_lines all c.args.number line may s stands) c.args.most may.read.1 c.loop-partition.self c.loop-partition.deliveries
    c.new-messages.result.items c.loop-partition.messages.items
    (flowed_at (counted s) c.loop-partition.self c.args.most c.loop-partition.partition partitions c.loop-partition.deliveries c.new-messages.result.items c.loop-partition.messages.items ended (c.loop-partition.invariant.flowed settings s stands))
    c.args.out.now.items c.tell_with.new.out.items c.new-messages.ensures.items c.in_ok-tell_with.ensures
