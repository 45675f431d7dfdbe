use Rattle.std.proofs.Common.{◌≡◌, ◌<◌, Err, ap, sym, subst, arith}
use Rattle.partition_protocol.specs.Service.{numbers_below}
use Rattle.call_engine.specs.Objects.{partition_object}
use Rattle.replay_run.specs.Runs.{partitions, served_in}
use Rattle.replay_run.specs.declared.run_end.RunEnd.TheVariants.{InFlight}
use Rattle.replay_run.proofs.Asking.{handed_on}
use Rattle.replay_run.proofs.Serving.{no_list, one_list, list_full, lists_at, idle_lists}
use Rattle.replay_run.proofs.WaiterLists.{nobody_waits}
use Rattle.replay_run.proofs.WaiterTurns.{lists_room, lists_members}
use Rattle.replay_run.proofs.grid.Grid.make_turns_of.Goals as goal

-- Nobody waits at all.
pub returns-then-is_idle-clause-ok : goal.returns-then-is_idle-clause-ok
returns-then-is_idle-clause-ok g c = λ settings r between.
    idle_lists c.args.self.now r c.args.member (numbers_below partitions) c.args.out.now.items (nobody_waits c.args.self.now.waiters r between.holds.waiters (c.is_idle.ensures.0 c.if-is_idle.true)) between

pub loop-partition-init : goal.loop-partition-init
loop-partition-init g c = λ settings r between. no_list c.args.self.now r c.args.member c.args.out.now.items between

pub make_turns-requires-clause-member : goal.make_turns-requires-clause-member
make_turns-requires-clause-member g c =
    let did = c.loop-partition.invariant c.requires.stands.0 c.requires.stands.1 c.requires.stands.2 in
    let same = lists_members c.args.self.now c.loop-partition.self c.requires.stands.1 c.args.member c.loop-partition.partition c.args.out.now.items c.loop-partition.out.items did c.requires.stands.2 in
    subst (λ n. c.args.member < n) (sym same) c.requires.member

pub make_turns-requires-clause-stands : goal.make_turns-requires-clause-stands
make_turns-requires-clause-stands g c =
    let o = partition_object c.requires.stands.0 in
    let r = c.requires.stands.1 in
    let n = c.loop-partition.partition in
    let did = c.loop-partition.invariant c.requires.stands.0 r c.requires.stands.2 in
    (c.requires.stands.0, served_in o did.skips r c.args.member (numbers_below n), did.between, lists_room o did.skips r c.args.member (numbers_below n) n 0 (c.requires.stands.3 n))

pub loop-partition-preserved : goal.loop-partition-preserved
loop-partition-preserved g c = λ settings r between.
    let n = c.loop-partition.partition in
    let did = c.loop-partition.invariant settings r between in
    one_list c.args.self.now r c.args.member c.loop-partition.self n c.args.out.now.items c.loop-partition.out.items did c.make_turns.new.self c.make_turns.new.out.items
    (c.in_ok-make_turns.ensures.ok settings (served_in (partition_object settings) did.skips r c.args.member (numbers_below n)) did.between)

-- One meets its partition full.
pub returns-in_err-make_turns-clause-full : goal.returns-in_err-make_turns-clause-full
returns-in_err-make_turns-clause-full g c = λ settings r between was.
    let n = c.loop-partition.partition in
    let did = c.loop-partition.invariant settings r between in
    let why = handed_on c.from_residual.result c.in_err-make_turns.field-0.0 InFlight c.from_residual.ensures.1 was in
    list_full c.args.self.now r c.args.member c.loop-partition.self n c.args.out.now.items c.loop-partition.out.items did partitions (omega (arith, c.loop-partition-test.true))
    (c.in_err-make_turns.ensures.full settings (served_in (partition_object settings) did.skips r c.args.member (numbers_below n)) did.between (ap Err why))

pub returns-clause-ok : goal.returns-clause-ok
returns-clause-ok g c = λ settings r between.
    let ended : c.loop-partition.partition ≡ partitions = omega (arith, c.loop-partition-test.false, c.loop-partition.auto.partition-end) in
    lists_at c.args.self.now r c.args.member c.loop-partition.self c.loop-partition.partition partitions c.args.out.now.items c.loop-partition.out.items ended (c.loop-partition.invariant settings r between)
