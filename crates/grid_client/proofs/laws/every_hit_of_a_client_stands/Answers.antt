use Rattle.grid_client.proofs.Ties.{every_hit_of_a_client_stands}
use Rattle.grid_client.proofs.laws.every_hit_of_a_client_stands.Goals as goal

pub returns : goal.returns
returns g c = λ o l. every_hit_of_a_client_stands o l
