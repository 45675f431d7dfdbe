use Rattle.near_run_laws.proofs.NearHits.{every_hit_of_a_near_client_stands}
use Rattle.near_run_laws.proofs.every_hit_of_a_near_client_stands.Goals as goal

pub returns : goal.returns
returns c = every_hit_of_a_near_client_stands
