-- The theorem is of every object.
use Rattle.apart_masters.proofs.every_number_is_bounded.Goals as goal
use Rattle.apart_masters.proofs.Theorem.{every_number_is_bounded}

pub returns : goal.returns
returns g c = λ o. every_number_is_bounded o
