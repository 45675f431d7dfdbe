use Rattle.listeners.specs.Telling.{change_event}
use Rattle.listeners.proofs.Events.{told-more}
use Rattle.listeners.proofs.telling.change_events.Goals as goal

pub loop-listener-preserved : goal.loop-listener-preserved
loop-listener-preserved c =
    told-more (change_event c.args.partition c.args.answer.now c.args.change.now) c.args.listeners.now c.loop-listener.listener-index c.listener-item.result c.loop-listener.events.items c.push_event.new.events.items c.in_ok-event.event
    c.loop-listener-test.true c.listener-item.is c.loop-listener.invariant c.in_ok-event.ensures c.in_ok-push_event.ensures
