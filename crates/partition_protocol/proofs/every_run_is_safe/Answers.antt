-- Every run keeps the invariant, and what keeps it is safe.
use Rattle.partition_protocol.proofs.every_run_is_safe.Goals as goal
use Rattle.partition_protocol.proofs.Theorem.{every_run_is_safe}

pub returns : goal.returns
returns g c = λ o. every_run_is_safe o
