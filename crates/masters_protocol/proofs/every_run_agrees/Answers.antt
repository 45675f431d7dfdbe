-- The theorem of the mastership.
use Rattle.masters_protocol.proofs.every_run_agrees.Goals as goal
use Rattle.masters_protocol.proofs.Theorem.{every_run_agrees}

pub returns : goal.returns
returns g c = λ size before after l u. every_run_agrees size before after l u
