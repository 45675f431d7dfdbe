use Rattle.std.proofs.Common.{◌∙◌, ◌++◌, List, ap}
use Rattle.listeners.specs.Telling.{Sent}
use Rattle.replay_run.specs.Runs.{events_to}
use Rattle.replay_run.specs.LineTold.{message_told, all_told}
use Rattle.replay_run.proofs.GivingOut.{events_on}
use Rattle.replay_run.proofs.LineCalls.{at_end}
use Rattle.replay_run.proofs.outgoing.push_events.Goals as goal

pub loop-event-preserved : goal.loop-event-preserved
loop-event-preserved c =
    events_on c.args.line c.loop-event.yielded c.in-Some.event c.args.out.now.items c.loop-event.out.items c.tell_message.new.out.items c.loop-event.invariant
    (c.in_ok-tell_message.ensures ∙ ap (λ m. c.loop-event.out.items ++ message_told m) c.own_answer.ensures)

pub returns : goal.returns
returns c =
    let gives = c.into_iter-event-iterator.ensures.into_iter_gives in
    let whole = at_end c.into_iter-event-iterator.result c.args.events.items gives.0 (gives.1 ∙ c.args.events.ok.0) c.loop-event.yielded c.loop-event.event-iterator c.loop-event.yielded_by c.next.result c.next.new.self c.next.ensures.steps c.in-None.is in
    c.loop-event.invariant ∙ ap (λ (sent : List Sent). c.args.out.now.items ++ all_told (events_to c.args.line sent)) whole
