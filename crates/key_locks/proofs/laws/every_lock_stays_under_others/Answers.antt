use Rattle.key_locks.proofs.laws.every_lock_stays_under_others.Goals as goal
use Rattle.key_locks.proofs.Calls.{stays_under_others}

pub returns : goal.returns
returns c = stays_under_others
