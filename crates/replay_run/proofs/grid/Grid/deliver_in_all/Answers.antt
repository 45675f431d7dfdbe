use Rattle.std.proofs.Common.{◌≡◌, Err, ap, arith}
use Rattle.partition_protocol.specs.Service.{numbers_below}
use Rattle.call_engine.specs.Objects.{partition_object}
use Rattle.replay_run.specs.Runs.{partitions, flowed_in}
use Rattle.replay_run.specs.declared.run_end.RunEnd.TheVariants.{InFlight}
use Rattle.replay_run.proofs.Asking.{handed_on}
use Rattle.replay_run.proofs.Flowing.{one_flowed, flowed_at, flow_room, flow_ends}
use Rattle.replay_run.proofs.grid.Grid.deliver_in_all.Goals as goal

pub deliver_first-requires-clause-stands : goal.deliver_first-requires-clause-stands
deliver_first-requires-clause-stands g c =
    let o = partition_object c.requires.stands.0 in
    let r = c.requires.stands.1 in
    let n = c.loop-partition.partition in
    let most = c.args.most in
    let did = c.loop-partition.invariant.flowed c.requires.stands.0 r c.requires.stands.2 in
    (c.requires.stands.0, flowed_in o did.on.skips r most (numbers_below n), did.on.on.amid, flow_room o did.on.skips r most n most (c.requires.stands.3 n))

pub returns-in_err-deliveries-clause-full : goal.returns-in_err-deliveries-clause-full
returns-in_err-deliveries-clause-full g c = λ settings r amid was.
    let o = partition_object settings in
    let n = c.loop-partition.partition in
    let most = c.args.most in
    let did = c.loop-partition.invariant.flowed settings r amid in
    let why = handed_on c.from_residual.result c.in_err-deliveries.field-0.0 InFlight c.from_residual.ensures.1 was in
    flow_ends r c.loop-partition.self c.loop-partition.self most n c.loop-partition.deliveries 0 c.args.out.now.items c.loop-partition.out.items did partitions (omega (arith, c.loop-partition-test.true))
    (c.in_err-deliveries.ensures.full settings (flowed_in o did.on.skips r most (numbers_below n)) did.on.on.amid (ap Err why))

pub loop-partition-preserved : goal.loop-partition-preserved
loop-partition-preserved g c = record {
  few = let more = c.in_ok-deliveries.ensures.most in omega (arith, c.loop-partition.invariant.few, more, c.requires.most);
  flowed = λ settings r amid.
      (let n = c.loop-partition.partition in
      let most = c.args.most in
      let did = c.loop-partition.invariant.flowed settings r amid in
      one_flowed r c.loop-partition.self c.deliver_first.new.self most n c.loop-partition.deliveries c.in_ok-deliveries.field-0 c.args.out.now.items c.loop-partition.out.items did c.deliver_first.new.out.items
      (c.in_ok-deliveries.ensures.ok settings (flowed_in (partition_object settings) did.on.skips r most (numbers_below n)) did.on.on.amid));
}

pub returns-clause-ok : goal.returns-clause-ok
returns-clause-ok g c = λ settings r amid.
    let ended : c.loop-partition.partition ≡ partitions = omega (arith, c.loop-partition-test.false, c.loop-partition.auto.partition-end) in
    flowed_at r c.loop-partition.self c.args.most c.loop-partition.partition partitions c.loop-partition.deliveries c.args.out.now.items c.loop-partition.out.items ended (c.loop-partition.invariant.flowed settings r amid)
