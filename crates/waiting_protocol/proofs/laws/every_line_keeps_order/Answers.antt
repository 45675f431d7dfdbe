-- The theorem is of every object.
use Rattle.waiting_protocol.proofs.laws.every_line_keeps_order.Goals as goal
use Rattle.waiting_protocol.proofs.Orders.{every_line_keeps_order}

pub returns : goal.returns
returns g c = λ o. every_line_keeps_order o
