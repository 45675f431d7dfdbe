use Rattle.script_run.proofs.laws.every_skipped_call_is_told.Goals as goal
use Rattle.script_run.proofs.ScriptLaws.{every_skipped_call_is_told}

pub returns : goal.returns
returns c = every_skipped_call_is_told
