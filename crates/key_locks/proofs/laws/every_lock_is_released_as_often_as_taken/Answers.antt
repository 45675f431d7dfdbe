use Rattle.key_locks.proofs.laws.every_lock_is_released_as_often_as_taken.Goals as goal
use Rattle.key_locks.proofs.Calls.{free_after_as_many, held_after_fewer}

pub returns-clause-free : goal.returns-clause-free
returns-clause-free c = free_after_as_many

pub returns-clause-held : goal.returns-clause-held
returns-clause-held c = held_after_fewer
