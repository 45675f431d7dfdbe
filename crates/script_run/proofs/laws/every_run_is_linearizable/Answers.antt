use Rattle.script_run.proofs.laws.every_run_is_linearizable.Goals as goal
use Rattle.script_run.proofs.ScriptLaws.{every_run_is_linearizable}

pub returns : goal.returns
returns c = every_run_is_linearizable
