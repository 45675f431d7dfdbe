use Rattle.script_run.proofs.laws.every_call_counts_once.Goals as goal
use Rattle.script_run.proofs.ScriptLaws.{every_call_counts_once}

pub returns : goal.returns
returns c = every_call_counts_once
