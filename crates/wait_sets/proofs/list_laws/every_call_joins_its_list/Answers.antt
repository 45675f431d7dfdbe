use Rattle.wait_sets.proofs.list_laws.every_call_joins_its_list.Goals as goal
use Rattle.wait_sets.proofs.Partitions.{every_call_joins_its_list}

pub returns : goal.returns
returns c = every_call_joins_its_list
