use Rattle.queue_records.proofs.laws.every_queue_stays_within_its_capacity.Goals as goal
use Rattle.queue_records.proofs.Calls.{stays_within}

pub returns : goal.returns
returns c = stays_within
