use Rattle.grid_client.proofs.Ties.{every_look_is_the_machines, every_hit_is_the_machines}
use Rattle.grid_client.proofs.laws.every_hit_is_the_machines.Goals as goal

pub returns : goal.returns
returns g c = record {
  look = λ l s near x key goes. every_look_is_the_machines l goes s near x key goes;
  hit = λ l s new x key value goes. every_hit_is_the_machines l goes s new x key value goes;
}
