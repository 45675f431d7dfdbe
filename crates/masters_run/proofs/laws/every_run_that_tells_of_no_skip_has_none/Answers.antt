-- It is the law of the lemmas.
use Rattle.masters_run.proofs.laws.every_run_that_tells_of_no_skip_has_none.Goals as goal
use Rattle.masters_run.proofs.RuledSkips.{every_run_that_tells_of_no_skip_has_none}

pub returns : goal.returns
returns c = every_run_that_tells_of_no_skip_has_none
