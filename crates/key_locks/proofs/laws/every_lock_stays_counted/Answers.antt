use Rattle.key_locks.proofs.laws.every_lock_stays_counted.Goals as goal
use Rattle.key_locks.proofs.Calls.{stays_counted}

pub returns : goal.returns
returns c = stays_counted
