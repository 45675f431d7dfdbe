-- It is a part of the invariant.
use Rattle.partition_protocol.proofs.every_acknowledgement_holds.Goals as goal
use Rattle.partition_protocol.proofs.Theorem.{every_ack_holds}

pub returns : goal.returns
returns g c = λ o. every_ack_holds o
