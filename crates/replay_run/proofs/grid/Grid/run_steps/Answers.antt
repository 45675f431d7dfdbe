use Rattle.std.proofs.Common.{◌+◌, ◌∷◌, ◌++◌, Err, drop, take, get_or, ap, sym, subst, arith}
use Rattle.rebalance.specs.declared.Step.{Step}
use Rattle.rebalance.specs.declared.StepKind.TheVariants.{Move}
use Rattle.std.proofs.lemmas.List.{take_all}
use Rattle.call_engine.specs.Objects.{partition_object}
use Rattle.replay_run.specs.Rebalancing.{stepped_all}
use Rattle.replay_run.specs.WorldCalls.{MayStep}
use Rattle.replay_run.specs.declared.run_end.RunEnd.TheVariants.{InFlight}
use Rattle.replay_run.proofs.Asking.{handed_on}
use Rattle.replay_run.proofs.GivingUp.{up_as}
use Rattle.replay_run.proofs.RebalanceLine.{none_stepped, more_stepped, stepped_as, next_may, next_placed, steps_end, split_at, take_one, read_any}
use Rattle.replay_run.proofs.grid.Grid.run_steps.Goals as goal

-- what reading a place past the end would give
abbrev no_step : Step
no_step = record { partition = 0; from = 0; to = 0; kind = Move }

pub loop-place-init : goal.loop-place-init
loop-place-init g c = λ settings r amid. none_stepped r c.args.self.now c.args.out.now.items amid

pub run_told-requires-clause-placed : goal.run_told-requires-clause-placed
run_told-requires-clause-placed g c =
    let steps = c.args.steps.now in
    let i = c.loop-place.place in
    let split = split_at steps i (get_or steps i no_step) (omega arith) (read_any steps i no_step (get_or steps i no_step) (omega arith)) in
    next_placed c.requires.1 0 (take i steps) (get_or steps i no_step) (drop (i + 1) steps) (subst (MayStep c.requires.1 0) split c.requires.3)

pub run_told-requires-clause-stands : goal.run_told-requires-clause-stands
run_told-requires-clause-stands g c =
    let settings = c.requires.0 in
    let r = c.requires.1 in
    let o = partition_object settings in
    let steps = c.args.steps.now in
    let i = c.loop-place.place in
    let split = split_at steps i (get_or steps i no_step) (omega arith) (read_any steps i no_step (get_or steps i no_step) (omega arith)) in
    let did = c.loop-place.invariant settings r c.requires.2 in
    (settings, stepped_all o did.skips r (take i steps), did.amid, next_may o did.skips r 0 (take i steps) (get_or steps i no_step) (drop (i + 1) steps) (subst (MayStep r 0) split c.requires.3))

pub returns-in_err-run_told-clause-full : goal.returns-in_err-run_told-clause-full
returns-in_err-run_told-clause-full g c = λ settings r amid was.
    let o = partition_object settings in
    let steps = c.args.steps.now in
    let i = c.loop-place.place in
    let split = split_at steps i (get_or steps i no_step) (omega arith) (read_any steps i no_step (get_or steps i no_step) (omega arith)) in
    let why = handed_on c.from_residual.result c.in_err-run_told.field-0.0 InFlight c.from_residual.ensures.1 was in
    let step = get_or steps i no_step in
    let did = c.loop-place.invariant settings r amid in
    up_as r (λ s. stepped_all o s r (take i steps ++ step ∷ drop (i + 1) steps)) (λ s. stepped_all o s r steps) (λ s. sym (ap (λ all. stepped_all o s r all) split))
    (steps_end r c.loop-place.self c.loop-place.self (take i steps) step c.args.out.now.items c.loop-place.out.items did (drop (i + 1) steps)
    (c.in_err-run_told.ensures.full settings (stepped_all o did.skips r (take i steps)) did.amid (ap Err why)))

pub loop-place-preserved : goal.loop-place-preserved
loop-place-preserved g c = λ settings r amid.
    let o = partition_object settings in
    let steps = c.args.steps.now in
    let i = c.loop-place.place in
    let step = get_or steps i no_step in
    let did = c.loop-place.invariant settings r amid in
    stepped_as (sym (take_one steps i step (omega arith) (read_any steps i no_step step (omega arith))))
    (more_stepped r c.loop-place.self c.run_told.new.self (take i steps) step c.args.out.now.items c.loop-place.out.items did c.run_told.new.out.items (c.in_ok-run_told.ensures.ok settings (stepped_all o did.skips r (take i steps)) did.amid))

pub returns-clause-ok : goal.returns-clause-ok
returns-clause-ok g c = λ settings r amid. stepped_as (take_all c.loop-place.place c.args.steps.now (omega arith)) (c.loop-place.invariant settings r amid)
