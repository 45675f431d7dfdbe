-- The theorem is of every object.
use Rattle.waiting_protocol.proofs.laws.every_refusal_is_in_order.Goals as goal
use Rattle.waiting_protocol.proofs.Refusals.{every_refusal_is_in_order}

pub returns : goal.returns
returns g c = λ o. every_refusal_is_in_order o
