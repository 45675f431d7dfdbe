-- The theorem is of every object.
use Rattle.waiting_protocol.proofs.laws.every_waiter_is_silent.Goals as goal
use Rattle.waiting_protocol.proofs.Theorem.{every_waiter_is_silent}

pub returns : goal.returns
returns g c = λ o. every_waiter_is_silent o
