use Rattle.script_run.proofs.laws.every_run_is_ruled.Goals as goal
use Rattle.script_run.proofs.MastersLaws.{every_run_is_ruled}

pub returns : goal.returns
returns c = every_run_is_ruled
