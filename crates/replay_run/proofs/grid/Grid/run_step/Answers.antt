use Rattle.std.proofs.Common.{◌∙◌, Err, ap, subst, arith}
use Rattle.std.proofs.lemmas.Result.{on_ok_weaker}
use Rattle.partition_protocol.specs.Arrivals.{asked_by}
use Rattle.call_engine.specs.Objects.{partition_object}
use Rattle.replay_run.specs.Runs.{takes}
use Rattle.replay_run.specs.Rebalancing.{most_turns, event_begun, turned_on}
use Rattle.replay_run.specs.WorldCalls.{GivesUpSo}
use Rattle.replay_run.specs.declared.run_end.RunEnd.TheVariants.{InFlight}
use Rattle.replay_run.proofs.Asking.{handed_on}
use Rattle.replay_run.proofs.EventRuns.{takes_few, takes_kept}
use Rattle.replay_run.proofs.Flowing.{taken_by, so_further, gives_up_after}
use Rattle.replay_run.proofs.GivingUp.{gives_up_first}
use Rattle.replay_run.proofs.Growing.{turned_on_goes, rejoined_goes}
use Rattle.replay_run.proofs.Rebalanced.{begun_unasked, turned_on_few, turned_on_kept, turned_on_run, rejoined_run}
use Rattle.replay_run.proofs.RebalanceLine.{begins, turns_of, joins_of, turned_after, begins_goes, after_goes, ends_after}
use Rattle.replay_run.proofs.grid.Grid.run_step.Goals as goal

pub take-requires-clause-unasked : goal.take-requires-clause-unasked
take-requires-clause-unasked g c = ap asked_by c.event_begun.ensures ∙ begun_unasked c.args.step.kind c.args.step.from c.args.step.to

pub take-requires-clause-stands : goal.take-requires-clause-stands
take-requires-clause-stands g c = (c.requires.stands.0, c.requires.stands.1, c.requires.stands.2, let room = c.requires.stands.3 in omega (arith, room))

pub returns-in_err-take-clause-full : goal.returns-in_err-take-clause-full
returns-in_err-take-clause-full g c = λ settings r amid was.
    let o = partition_object settings in
    let step = c.args.step in
    let why = handed_on c.from_residual.result c.in_err-take.field-0.0 InFlight c.from_residual.ensures.1 was in
    let up : GivesUpSo r (begins o r step) = subst (λ e. GivesUpSo r (λ s. takes o s r step.partition e)) c.event_begun.ensures (c.in_err-take.ensures.full settings r amid (ap Err why)) in
    ends_after o r step (gives_up_first r (begins o r step) (turns_of o step) (begins_goes o r step) (λ x. turned_on_goes o x step.partition most_turns) up)

pub turn_on-requires-clause-stands : goal.turn_on-requires-clause-stands
turn_on-requires-clause-stands g c =
    let settings = c.requires.stands.0 in
    let r = c.requires.stands.1 in
    let o = partition_object settings in
    let p = c.args.step.partition in
    let event = event_begun c.args.step.kind c.args.step.from c.args.step.to in
    let on = (taken_by c.event_begun.ensures (c.in_ok-take.ensures.ok settings r c.requires.stands.2)).on in
    let room = c.requires.stands.3 in
    let few = takes_few o on.skips r p event p in
    let calls = (takes_kept o on.skips r p event).calls in
    (settings, takes o on.skips r p event, on.on.amid, omega (arith, room, few, calls))

pub returns-in_err-turn_on-clause-full : goal.returns-in_err-turn_on-clause-full
returns-in_err-turn_on-clause-full g c = λ settings r amid was.
    let o = partition_object settings in
    let step = c.args.step in
    let on = (taken_by c.event_begun.ensures (c.in_ok-take.ensures.ok settings r amid)).on in
    let begun = begins o r step on.skips in
    let why = handed_on c.from_residual-in_err-turn_on.result c.in_err-turn_on.field-0.0 InFlight c.from_residual-in_err-turn_on.ensures.1 was in
    ends_after o r step (gives_up_after c.take.new.self c.take.new.self r (begins o r step) (turns_of o step) (begins_goes o r step) (λ x. turned_on_goes o x step.partition most_turns) c.args.out.now.items c.take.new.out.items on
    (c.in_err-turn_on.ensures.full settings begun on.on.amid (ap Err why)) (λ s. turned_on_run s begun step.partition most_turns on.on.amid.run))

pub rejoin-requires-clause-stands : goal.rejoin-requires-clause-stands
rejoin-requires-clause-stands g c =
    let settings = c.requires.stands.0 in
    let r = c.requires.stands.1 in
    let o = partition_object settings in
    let p = c.args.step.partition in
    let event = event_begun c.args.step.kind c.args.step.from c.args.step.to in
    let on = (taken_by c.event_begun.ensures (c.in_ok-take.ensures.ok settings r c.requires.stands.2)).on in
    let begun = takes o on.skips r p event in
    let further = c.in_ok-turn_on.ensures.ok settings begun on.on.amid in
    let room = c.requires.stands.3 in
    let few = takes_few o on.skips r p event p in
    let more = turned_on_few o further.skips p p begun most_turns in
    let calls = (takes_kept o on.skips r p event).calls in
    let calls_then = (turned_on_kept o further.skips begun p most_turns).calls in
    (settings, turned_on o further.skips begun p most_turns, further.on.amid, omega (arith, room, few, more, calls, calls_then))

pub returns-clause-full : goal.returns-clause-full
returns-clause-full g c = λ settings r amid was.
    let o = partition_object settings in
    let step = c.args.step in
    let on = (taken_by c.event_begun.ensures (c.in_ok-take.ensures.ok settings r amid)).on in
    let begun = begins o r step on.skips in
    let further = c.in_ok-turn_on.ensures.ok settings begun on.on.amid in
    let late = so_further c.take.new.self c.turn_on.new.self r (begins o r step) (turns_of o step) (begins_goes o r step) (λ x. turned_on_goes o x step.partition most_turns) c.args.out.now.items c.take.new.out.items on c.turn_on.new.out.items further in
    let last = turned_after o r step late.0.skips in
    gives_up_after c.turn_on.new.self c.turn_on.new.self r (turned_after o r step) (joins_of o step) (after_goes o r step) (λ x. rejoined_goes o x step.partition step.from step.kind) c.args.out.now.items c.turn_on.new.out.items late.0
    (c.rejoin.ensures.full settings last late.0.on.amid was) (λ s. rejoined_run s last step.partition step.from step.kind late.0.on.amid.run)

pub returns-clause-ok : goal.returns-clause-ok
returns-clause-ok g c = λ settings r amid.
    let o = partition_object settings in
    let step = c.args.step in
    let start = c.args.out.now.items in
    let on = (taken_by c.event_begun.ensures (c.in_ok-take.ensures.ok settings r amid)).on in
    let begun = begins o r step on.skips in
    let further = c.in_ok-turn_on.ensures.ok settings begun on.on.amid in
    let late = so_further c.take.new.self c.turn_on.new.self r (begins o r step) (turns_of o step) (begins_goes o r step) (λ x. turned_on_goes o x step.partition most_turns) start c.take.new.out.items on c.turn_on.new.out.items further in
    let last = turned_after o r step late.0.skips in
    on_ok_weaker c.rejoin.result
    (λ joined. (so_further c.turn_on.new.self c.rejoin.new.self r (turned_after o r step) (joins_of o step) (after_goes o r step) (λ x. rejoined_goes o x step.partition step.from step.kind) start c.turn_on.new.out.items late.0 c.rejoin.new.out.items joined).0)
    (c.rejoin.ensures.ok settings last late.0.on.amid)
