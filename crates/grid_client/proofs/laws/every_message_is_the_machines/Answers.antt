use Rattle.grid_client.proofs.Ties.{every_message_is_the_machines}
use Rattle.grid_client.proofs.laws.every_message_is_the_machines.Goals as goal

pub returns : goal.returns
returns g c = λ l conn s near x message said goes. every_message_is_the_machines l goes conn s near x message said goes
