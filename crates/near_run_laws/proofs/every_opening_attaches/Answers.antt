use Rattle.near_run_laws.proofs.Attaching.{every_opening_attaches}
use Rattle.near_run_laws.proofs.every_opening_attaches.Goals as goal

pub returns : goal.returns
returns c = every_opening_attaches
