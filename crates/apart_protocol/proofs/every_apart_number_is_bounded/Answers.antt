-- The theorem is of every object.
use Rattle.apart_protocol.proofs.every_apart_number_is_bounded.Goals as goal
use Rattle.apart_protocol.proofs.Sizes.{every_apart_number_is_bounded}

pub returns : goal.returns
returns g c = λ o. every_apart_number_is_bounded o
