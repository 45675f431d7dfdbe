use Rattle.partition_protocol.proofs.laws.every_count_is_bounded.Goals as goal
use Rattle.partition_protocol.proofs.Bounds.{every_run_is_within}

pub returns : goal.returns
returns g c = λ o. every_run_is_within o
