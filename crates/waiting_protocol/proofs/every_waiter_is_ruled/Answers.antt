-- The theorem is of every object.
use Rattle.waiting_protocol.proofs.every_waiter_is_ruled.Goals as goal
use Rattle.waiting_protocol.proofs.Theorem.{every_waiter_is_ruled}

pub returns : goal.returns
returns g c = λ o. every_waiter_is_ruled o
