use Rattle.std.proofs.Common.{Err, ap}
use Rattle.call_engine.specs.Objects.{partition_object}
use Rattle.replay_run.specs.Rebalancing.{stepped}
use Rattle.replay_run.specs.declared.run_end.RunEnd.TheVariants.{InFlight}
use Rattle.replay_run.proofs.Asking.{handed_on}
use Rattle.replay_run.proofs.RebalanceLine.{one_stepped}
use Rattle.replay_run.proofs.grid.Grid.run_told.Goals as goal

pub returns-in_err-run_step-clause-full : goal.returns-in_err-run_step-clause-full
returns-in_err-run_step-clause-full g c = λ settings r amid was.
    let why = handed_on c.from_residual.result c.in_err-run_step.field-0.0 InFlight c.from_residual.ensures.1 was in
    c.in_err-run_step.ensures.full settings r amid (ap Err why)

pub is_moving-moving-requires-clause-stands : goal.is_moving-moving-requires-clause-stands
is_moving-moving-requires-clause-stands g c =
    let settings = c.requires.stands.0 in
    let r = c.requires.stands.1 in
    let on = c.in_ok-run_step.ensures.ok settings r c.requires.stands.2 in
    (settings, stepped (partition_object settings) on.skips r c.args.step, on.on.amid)

pub returns-clause-ok : goal.returns-clause-ok
returns-clause-ok g c = λ settings r amid.
    let o = partition_object settings in
    let step = c.args.step in
    let on = c.in_ok-run_step.ensures.ok settings r amid in
    one_stepped r c.run_step.new.self step c.args.out.now.items c.run_step.new.out.items c.tell_ended.new.out.items c.is_moving-moving.result
    on (c.is_moving-moving.ensures settings (stepped o on.skips r step) on.on.amid) c.in_ok-tell_ended.ensures
