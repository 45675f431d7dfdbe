use Rattle.grid_client.proofs.Ties.{every_miss_is_the_machines, every_call_keeps_the_tie, every_retry_keeps_the_tie, every_connection_keeps_the_tie}
use Rattle.grid_client.proofs.laws.every_call_is_the_machines.Goals as goal

pub returns : goal.returns
returns c = record { miss = every_miss_is_the_machines; call = every_call_keeps_the_tie; retry = every_retry_keeps_the_tie; connection = every_connection_keeps_the_tie }
