-- A line gives turns in lists of one member, and each is looked at until none is left.
use Rattle.replay_run.proofs.laws.every_waiter_stays.Goals as goal
use Rattle.replay_run.proofs.Staying.{every_waiter_stays}

pub returns : goal.returns
returns c = every_waiter_stays
