use Rattle.partition_protocol.proofs.laws.every_run_is_well_formed.Goals as goal
use Rattle.partition_protocol.proofs.WellFormed.{every_run_is_well_formed}

pub returns : goal.returns
returns g c = λ o. every_run_is_well_formed o
