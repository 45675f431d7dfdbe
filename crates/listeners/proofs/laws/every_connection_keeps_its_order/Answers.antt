use Rattle.listeners.proofs.Ordering.{every_connection_keeps_its_order}
use Rattle.listeners.proofs.laws.every_connection_keeps_its_order.Goals as goal

pub returns : goal.returns
returns c = every_connection_keeps_its_order
