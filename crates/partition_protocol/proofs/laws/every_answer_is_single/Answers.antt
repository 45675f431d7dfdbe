use Rattle.partition_protocol.proofs.laws.every_answer_is_single.Goals as goal
use Rattle.partition_protocol.proofs.Answers.{every_answer_is_single}

pub returns : goal.returns
returns g c = λ o. every_answer_is_single o
