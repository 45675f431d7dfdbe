use Rattle.std.proofs.Common.{Err, refl, ap, arith}
use Rattle.partition_protocol.specs.Events.{BeginJoin}
use Rattle.call_engine.specs.Objects.{partition_object}
use Rattle.replay_run.specs.Runs.{takes}
use Rattle.replay_run.specs.Rebalancing.{most_deliveries}
use Rattle.replay_run.specs.declared.run_end.RunEnd.TheVariants.{InFlight}
use Rattle.replay_run.proofs.Asking.{handed_on}
use Rattle.replay_run.proofs.EventRuns.{takes_few, takes_kept, flowed_run}
use Rattle.replay_run.proofs.Flowing.{so_further, gives_up_after}
use Rattle.replay_run.proofs.GivingUp.{gives_up_first}
use Rattle.replay_run.proofs.Growing.{takes_goes, flowed_goes}
use Rattle.replay_run.proofs.RebalanceLine.{flows}
use Rattle.replay_run.proofs.grid.Grid.join.Goals as goal

pub take-requires-clause-stands : goal.take-requires-clause-stands
take-requires-clause-stands g c = (c.requires.stands.0, c.requires.stands.1, c.requires.stands.2, let room = c.requires.stands.3 in omega (arith, room))

pub returns-in_err-take-clause-full : goal.returns-in_err-take-clause-full
returns-in_err-take-clause-full g c = λ settings r amid was.
    let o = partition_object settings in
    let p = c.args.partition in
    let event = BeginJoin c.args.member in
    let why = handed_on c.from_residual.result c.in_err-take.field-0.0 InFlight c.from_residual.ensures.1 was in
    gives_up_first r (λ s. takes o s r p event) (flows o p) (takes_goes o r p event refl) (λ x. flowed_goes o x p most_deliveries) (c.in_err-take.ensures.full settings r amid (ap Err why))

pub deliver_first-requires-clause-stands : goal.deliver_first-requires-clause-stands
deliver_first-requires-clause-stands g c =
    let settings = c.requires.stands.0 in
    let r = c.requires.stands.1 in
    let o = partition_object settings in
    let p = c.args.partition in
    let event = BeginJoin c.args.member in
    let on = (c.in_ok-take.ensures.ok settings r c.requires.stands.2).on in
    let room = c.requires.stands.3 in
    let few = takes_few o on.skips r p event p in
    let calls = (takes_kept o on.skips r p event).calls in
    (settings, takes o on.skips r p event, on.on.amid, omega (arith, room, few, calls))

pub returns-in_err-deliver_first-clause-full : goal.returns-in_err-deliver_first-clause-full
returns-in_err-deliver_first-clause-full g c = λ settings r amid was.
    let o = partition_object settings in
    let p = c.args.partition in
    let event = BeginJoin c.args.member in
    let on = (c.in_ok-take.ensures.ok settings r amid).on in
    let now = takes o on.skips r p event in
    let why = handed_on c.from_residual-in_err-deliver_first.result c.in_err-deliver_first.field-0.0 InFlight c.from_residual-in_err-deliver_first.ensures.1 was in
    gives_up_after c.take.new.self c.take.new.self r (λ s. takes o s r p event) (flows o p) (takes_goes o r p event refl) (λ x. flowed_goes o x p most_deliveries) c.args.out.now.items c.take.new.out.items on
    (c.in_err-deliver_first.ensures.full settings now on.on.amid (ap Err why)) (λ s. flowed_run s now p most_deliveries on.on.amid.run)

pub returns-clause-ok : goal.returns-clause-ok
returns-clause-ok g c = λ settings r amid.
    let o = partition_object settings in
    let p = c.args.partition in
    let event = BeginJoin c.args.member in
    let on = (c.in_ok-take.ensures.ok settings r amid).on in
    let now = takes o on.skips r p event in
    (so_further c.take.new.self c.deliver_first.new.self r (λ s. takes o s r p event) (flows o p) (takes_goes o r p event refl) (λ x. flowed_goes o x p most_deliveries) c.args.out.now.items c.take.new.out.items on c.deliver_first.new.out.items
    (c.in_ok-deliver_first.ensures.ok settings now on.on.amid).on).0
