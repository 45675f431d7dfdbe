-- It is the law of the lemmas.
use Rattle.masters_run.proofs.laws.every_waiter_stays.Goals as goal
use Rattle.masters_run.proofs.RuledWaiters.{every_waiter_stays}

pub returns : goal.returns
returns c = every_waiter_stays
