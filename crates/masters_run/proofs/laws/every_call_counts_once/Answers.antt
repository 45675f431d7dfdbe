-- It is the law of the lemmas.
use Rattle.masters_run.proofs.laws.every_call_counts_once.Goals as goal
use Rattle.masters_run.proofs.RuledRuns.{every_call_counts_once}

pub returns : goal.returns
returns c = every_call_counts_once
