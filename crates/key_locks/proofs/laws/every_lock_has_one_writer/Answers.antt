use Rattle.key_locks.proofs.laws.every_lock_has_one_writer.Goals as goal
use Rattle.key_locks.proofs.Calls.{has_one_writer}

pub returns : goal.returns
returns c = has_one_writer
