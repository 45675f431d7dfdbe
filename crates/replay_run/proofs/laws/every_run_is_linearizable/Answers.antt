-- Each line keeps what makes the histories fit.
use Rattle.replay_run.proofs.laws.every_run_is_linearizable.Goals as goal
use Rattle.replay_run.proofs.Linear.{every_run_is_linearizable}

pub returns : goal.returns
returns c = every_run_is_linearizable
