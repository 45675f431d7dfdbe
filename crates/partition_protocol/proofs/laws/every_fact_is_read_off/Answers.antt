use Rattle.partition_protocol.proofs.laws.every_fact_is_read_off.Goals as goal
use Rattle.partition_protocol.proofs.ReadOff.{every_fact_is_read_off}

pub returns : goal.returns
returns g c = λ o. every_fact_is_read_off o
