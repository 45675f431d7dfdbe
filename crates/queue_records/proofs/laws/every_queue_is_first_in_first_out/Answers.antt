use Rattle.queue_records.proofs.laws.every_queue_is_first_in_first_out.Goals as goal
use Rattle.queue_records.proofs.Calls.{first_in_first_out}

pub returns : goal.returns
returns c = first_in_first_out
