use Rattle.partition_protocol.proofs.laws.every_count_is_an_effect.Goals as goal
use Rattle.partition_protocol.proofs.Beginnings.{every_count_is_an_effect}

pub returns : goal.returns
returns g c = λ o. every_count_is_an_effect o
