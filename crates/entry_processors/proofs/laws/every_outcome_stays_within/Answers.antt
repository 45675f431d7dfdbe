use Rattle.entry_processors.proofs.laws.every_outcome_stays_within.Goals as goal
use Rattle.entry_processors.proofs.Outcomes.{stays_within}

pub returns : goal.returns
returns c = stays_within
