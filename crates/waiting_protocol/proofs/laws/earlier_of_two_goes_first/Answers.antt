-- The theorem is of every object.
use Rattle.waiting_protocol.proofs.laws.earlier_of_two_goes_first.Goals as goal
use Rattle.waiting_protocol.proofs.Fates.{earlier_of_two_goes_first}

pub returns : goal.returns
returns g c = λ o. earlier_of_two_goes_first o
