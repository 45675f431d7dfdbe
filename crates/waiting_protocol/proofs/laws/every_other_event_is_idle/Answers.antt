-- The theorem is of every object.
use Rattle.waiting_protocol.proofs.laws.every_other_event_is_idle.Goals as goal
use Rattle.waiting_protocol.proofs.Fates.{every_other_event_is_idle}

pub returns : goal.returns
returns g c = λ o. every_other_event_is_idle o
