-- It is the law of the lemmas.
use Rattle.masters_run.proofs.laws.every_ruled_run_is_a_run.Goals as goal
use Rattle.masters_run.proofs.RuledRuns.{every_ruled_run_is_a_run}

pub returns : goal.returns
returns c = every_ruled_run_is_a_run
