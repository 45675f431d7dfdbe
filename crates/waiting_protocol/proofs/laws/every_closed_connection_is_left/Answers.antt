-- The theorem is of every object.
use Rattle.waiting_protocol.proofs.laws.every_closed_connection_is_left.Goals as goal
use Rattle.waiting_protocol.proofs.Closed.{every_closed_connection_is_left}

pub returns : goal.returns
returns g c = λ o. every_closed_connection_is_left o
