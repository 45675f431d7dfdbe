use Rattle.near_protocol.proofs.laws.every_log_rises.Goals as goal
use Rattle.near_protocol.proofs.Versions.{every_log_rises}

pub returns : goal.returns
returns g c = λ o. every_log_rises o
