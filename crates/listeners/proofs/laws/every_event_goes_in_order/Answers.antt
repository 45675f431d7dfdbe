use Rattle.listeners.proofs.Ordering.{every_event_goes_in_order}
use Rattle.listeners.proofs.laws.every_event_goes_in_order.Goals as goal

pub returns : goal.returns
returns c = every_event_goes_in_order
