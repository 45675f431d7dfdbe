use Rattle.listeners.specs.Telling.{row_event}
use Rattle.listeners.proofs.Events.{told-more}
use Rattle.listeners.proofs.telling.row_events.Goals as goal

pub loop-listener-preserved : goal.loop-listener-preserved
loop-listener-preserved c =
    told-more (row_event c.args.rows.now) c.args.listeners.now c.loop-listener.listener-index c.listener-item.result c.loop-listener.events.items c.push_event.new.events.items c.in_ok-event.event
    c.loop-listener-test.true c.listener-item.is c.loop-listener.invariant c.in_ok-event.ensures c.in_ok-push_event.ensures
