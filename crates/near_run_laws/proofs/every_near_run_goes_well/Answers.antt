use Rattle.near_run_laws.proofs.NearRuns.{every_near_run_goes_well}
use Rattle.near_run_laws.proofs.every_near_run_goes_well.Goals as goal

pub returns : goal.returns
returns c = every_near_run_goes_well
