-- The theorem is of every object.
use Rattle.waiting_protocol.proofs.laws.every_line_is_of_one_kind.Goals as goal
use Rattle.waiting_protocol.proofs.Standings.{every_line_is_of_one_kind}

pub returns : goal.returns
returns g c = λ o. every_line_is_of_one_kind o
