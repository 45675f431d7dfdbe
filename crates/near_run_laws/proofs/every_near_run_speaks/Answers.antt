use Rattle.near_run_laws.proofs.Spoken.{every_near_run_speaks}
use Rattle.near_run_laws.proofs.every_near_run_speaks.Goals as goal

pub returns : goal.returns
returns c = every_near_run_speaks
