-- It is the law of the lemmas.
use Rattle.masters_run.proofs.laws.every_run_is_ruled.Goals as goal
use Rattle.masters_run.proofs.RuledLaws.{every_run_is_ruled}

pub returns : goal.returns
returns c = every_run_is_ruled
