use Rattle.near_run_laws.proofs.Readings.{every_output_is_heard}
use Rattle.near_run_laws.proofs.every_output_is_heard.Goals as goal

pub returns : goal.returns
returns c = every_output_is_heard
