use Rattle.wait_sets.proofs.list_laws.every_turn_is_its_partitions.Goals as goal
use Rattle.wait_sets.proofs.Partitions.{every_turn_is_its_partitions}

pub returns : goal.returns
returns c = λ settings. every_turn_is_its_partitions settings
