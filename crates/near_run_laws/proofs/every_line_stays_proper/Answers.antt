use Rattle.near_run_laws.proofs.Proper.{every_line_stays_proper}
use Rattle.near_run_laws.proofs.every_line_stays_proper.Goals as goal

pub returns : goal.returns
returns c = every_line_stays_proper
