-- Each call of the run is asked as it is without skips.
use Rattle.replay_run.proofs.laws.every_run_that_tells_of_no_skip_has_none.Goals as goal
use Rattle.replay_run.proofs.Skipped.{every_run_that_tells_of_no_skip_has_none}

pub returns : goal.returns
returns c = every_run_that_tells_of_no_skip_has_none
