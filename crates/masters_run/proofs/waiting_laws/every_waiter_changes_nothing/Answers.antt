-- It is the law of the lemmas.
use Rattle.masters_run.proofs.waiting_laws.every_waiter_changes_nothing.Goals as goal
use Rattle.masters_run.proofs.SilentWaiters.{every_waiter_changes_nothing}

pub returns : goal.returns
returns c = every_waiter_changes_nothing
