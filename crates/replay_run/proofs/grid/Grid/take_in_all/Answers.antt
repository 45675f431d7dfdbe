use Rattle.std.proofs.Common.{◌≡◌, ◌∙◌, [], Err, refl, ap, subst, arith}
use Rattle.partition_protocol.specs.Arrivals.{asked_by}
use Rattle.partition_protocol.specs.Service.{numbers_below}
use Rattle.partition_world.specs.Events.{happened_of}
use Rattle.call_engine.specs.Objects.{partition_object}
use Rattle.replay_run.specs.Runs.{partitions, takes, takes_in}
use Rattle.replay_run.specs.Printing.{outcome_at}
use Rattle.replay_run.specs.WorldCalls.{event_in_all, GivesUpSo}
use Rattle.replay_run.specs.declared.events.Fate.{Fate}
use Rattle.replay_run.specs.declared.events.Fate.TheVariants.{Crash, Detect}
use Rattle.replay_run.specs.declared.run_end.RunEnd.TheVariants.{InFlight}
use Rattle.replay_run.proofs.Asking.{handed_on}
use Rattle.replay_run.proofs.Flowing.{taken_by, taken_at, one_taken, first_outcome, take_room, take_ends}
use Rattle.replay_run.proofs.grid.Grid.take_in_all.Goals as goal
use Rattle.replay_run.proofs.grid.Grid.take_in_all.Goals.{then-partition-eq0, else-partition-eq0}

unasked : (f : Fate) → asked_by (event_in_all f) ≡ []
unasked (Crash member) = refl
unasked (Detect member) = refl

pub take-requires-clause-stands : goal.take-requires-clause-stands
take-requires-clause-stands g c =
    let o = partition_object c.requires.0 in
    let r = c.requires.1 in
    let n = c.loop-partition.partition in
    let event = event_in_all c.args.fate in
    let did = c.loop-partition.invariant.on c.requires.0 r c.requires.2 in
    (c.requires.0, takes_in o did.skips r event (numbers_below n), did.on.amid, take_room o did.skips r event n 1 (c.requires.3 n))

pub returns-in_err-happened-clause-full : goal.returns-in_err-happened-clause-full
returns-in_err-happened-clause-full g c = λ settings r amid was.
    let o = partition_object settings in
    let n = c.loop-partition.partition in
    let event = event_in_all c.args.fate in
    let did = c.loop-partition.invariant.on settings r amid in
    let why = handed_on c.from_residual.result c.in_err-happened.field-0.0 InFlight c.from_residual.ensures.1 was in
    let now = takes_in o did.skips r event (numbers_below n) in
    take_ends r event (unasked c.args.fate) c.loop-partition.self c.loop-partition.self n c.args.out.now.items c.loop-partition.out.items did partitions (omega (arith, c.loop-partition-test.true))
    (subst (λ e. GivesUpSo now (λ skips. takes o skips now n e)) c.event.ensures (c.in_err-happened.ensures.full settings now did.on.amid (ap Err why)))

pub loop-partition-preserved : goal.loop-partition-preserved
loop-partition-preserved g c = record {
  on = λ settings r amid.
      (let n = c.loop-partition.partition in
      let event = event_in_all c.args.fate in
      let did = c.loop-partition.invariant.on settings r amid in
      one_taken r event (unasked c.args.fate) c.loop-partition.self c.take.new.self n c.args.out.now.items c.loop-partition.out.items did c.in_ok-happened.happened c.take.new.out.items
      (taken_by c.event.ensures (c.in_ok-happened.ensures.ok settings (takes_in (partition_object settings) did.skips r event (numbers_below n)) did.on.amid)));
  outcome = λ settings r amid some.
      (let n = c.loop-partition.partition in
      let event = event_in_all c.args.fate in
      let did = c.loop-partition.invariant.on settings r amid in
      let is : happened_of c.if-partition-eq0.first ≡ outcome_at (partition_object settings) r 0 event = elim c.if-partition-eq0.branch [
        | then-partition-eq0 w ↦ ap happened_of w.first-is ∙ first_outcome r event (unasked c.args.fate) c.loop-partition.self c.take.new.self n c.args.out.now.items c.loop-partition.out.items did c.in_ok-happened.happened c.take.new.out.items (omega (arith, w.if-partition-eq0.true))
            (taken_by c.event.ensures (c.in_ok-happened.ensures.ok settings (takes_in (partition_object settings) did.skips r event (numbers_below n)) did.on.amid))
        | else-partition-eq0 w ↦ ap happened_of w.first-is ∙ c.loop-partition.invariant.outcome settings r amid (omega (arith, w.if-partition-eq0.false))
      ] in
      is);
}

pub returns-clause-ok : goal.returns-clause-ok
returns-clause-ok g c = λ settings r amid.
    let ended : c.loop-partition.partition ≡ partitions = omega (arith, c.loop-partition-test.false, c.loop-partition.auto.partition-end) in
    record {
      on = taken_at r (event_in_all c.args.fate) (unasked c.args.fate) c.loop-partition.self c.loop-partition.partition partitions c.args.out.now.items c.loop-partition.out.items ended (c.loop-partition.invariant.on settings r amid);
      outcome = c.loop-partition.invariant.outcome settings r amid (omega (arith, ended));
    }

pub returns-clause-full : goal.returns-clause-full
returns-clause-full g c = λ settings r amid was. absurd cc
