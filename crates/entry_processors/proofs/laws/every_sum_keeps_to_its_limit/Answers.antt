use Rattle.entry_processors.proofs.laws.every_sum_keeps_to_its_limit.Goals as goal
use Rattle.entry_processors.proofs.Outcomes.{keeps_to_its_limit}

pub returns : goal.returns
returns c = keeps_to_its_limit
