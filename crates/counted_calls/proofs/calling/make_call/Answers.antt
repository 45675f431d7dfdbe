use Rattle.std.proofs.Common.{sym, subst}
use Rattle.hand_cell.specs.declared.outcome.LiveOutcome.TheVariants as live
use Rattle.session_calls.specs.Calls.{MayFinish}
use Rattle.session_calls.specs.Sessions.{IsSessionOf}
use Rattle.live_grid.specs.Histories.{live_key}
use Rattle.counted_calls.specs.Callers.{GridPlace, WasStarted}
use Rattle.counted_calls.proofs.Starting.{has_made, is_free, made_if_counted, may_finish}
use Rattle.counted_calls.proofs.calling.make_call.Goals as goal

pub start_call-requires-clause-session : goal.start_call-requires-clause-session
start_call-requires-clause-session g c =
    subst (λ (place : GridPlace). IsSessionOf place c.args.session.now) (sym c.workplace-place.ensures) c.requires.made.2.of_grid

pub start_call-requires-clause-free : goal.start_call-requires-clause-free
start_call-requires-clause-free g c =
    let made = c.requires.made in is_free c.args.grid.now c.args.key.now made.0 c.args.number made.1 c.args.session.now made.2

pub finish_call-outcome-requires-clause-may : goal.finish_call-outcome-requires-clause-may
finish_call-outcome-requires-clause-may g c =
    let made = c.requires.made in
    let old = c.args.session.now in
    let away = c.start_call.new.session in
    let started = c.in_ok-started.started in
    let was = subst (λ (place : GridPlace). WasStarted place c.args.key.now c.args.number old away started) c.workplace-place.ensures c.in_ok-started.ensures.started in
    let may = may_finish c.args.grid.now c.args.key.now made.0 c.args.number made.1 old away away started live.Memory made.2 was in
    (was.start.terms, subst (λ (place : GridPlace). MayFinish live_key place was.start.terms away started) (sym c.workplace-place.ensures) may)

pub returns-clause-made : goal.returns-clause-made
returns-clause-made g c conn answered made =
    let grid = c.args.grid.now in
    let key = c.args.key.now in
    let number = c.args.number in
    let old = c.args.session.now in
    let away = c.start_call.new.session in
    let new = c.finish_call-outcome.new.session in
    let started = c.in_ok-started.started in
    let outcome = c.finish_call-outcome.result in
    let was = subst (λ (place : GridPlace). WasStarted place key number old away started) c.workplace-place.ensures c.in_ok-started.ensures.started in
    let may = may_finish grid key conn number answered old away new started outcome made was in
    let may_there = subst (λ (place : GridPlace). MayFinish live_key place was.start.terms away started) (sym c.workplace-place.ensures) may in
    made_if_counted grid key conn number answered new outcome c.counted.result c.counted.ensures.count c.counted.ensures.memory
    (has_made grid key conn number answered old away new started outcome made was (c.finish_call-outcome.ensures.ready was.start.terms may_there)
    (subst (λ (place : GridPlace). IsSessionOf place new) c.workplace-place.ensures c.finish_call-outcome.ensures.kept))
