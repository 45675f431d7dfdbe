-- It is the law of the lemmas.
use Rattle.masters_run.proofs.laws.every_run_is_linearizable.Goals as goal
use Rattle.masters_run.proofs.RuledRuns.{every_run_is_linearizable}

pub returns : goal.returns
returns c = every_run_is_linearizable
