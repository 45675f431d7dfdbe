use Rattle.near_run_laws.proofs.Looks.{hits, misses}
use Rattle.near_run_laws.proofs.every_look_up_is_the_machines.Goals as goal

pub returns : goal.returns
returns c = record { hit = hits; miss = misses }
