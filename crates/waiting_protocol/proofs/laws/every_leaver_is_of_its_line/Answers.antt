-- The theorem is of every object.
use Rattle.waiting_protocol.proofs.laws.every_leaver_is_of_its_line.Goals as goal
use Rattle.waiting_protocol.proofs.Places.{every_leaver_is_of_its_line}

pub returns : goal.returns
returns g c = λ o. every_leaver_is_of_its_line o
