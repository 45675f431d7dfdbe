use Rattle.near_protocol.proofs.laws.every_answer_is_of_its_member.Goals as goal
use Rattle.near_protocol.proofs.Holders.{every_answer_is_of_its_member}

pub returns : goal.returns
returns g c = λ o. every_answer_is_of_its_member o
