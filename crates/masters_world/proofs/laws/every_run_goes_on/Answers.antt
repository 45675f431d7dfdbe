-- The theorem is of every object.
use Rattle.masters_world.proofs.laws.every_run_goes_on.Goals as goal
use Rattle.masters_world.proofs.Theorem.{every_run_goes_on}

pub returns : goal.returns
returns g c = λ o. every_run_goes_on o
