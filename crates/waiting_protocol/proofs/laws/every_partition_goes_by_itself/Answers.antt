-- The theorem is of every object.
use Rattle.waiting_protocol.proofs.laws.every_partition_goes_by_itself.Goals as goal
use Rattle.waiting_protocol.proofs.Partitions.{every_partition_goes_by_itself}

pub returns : goal.returns
returns g c = λ o. every_partition_goes_by_itself o
