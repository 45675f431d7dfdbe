-- What a line does to a partition is what its machine does.
use Rattle.replay_run.proofs.laws.every_partition_goes_by_its_machine.Goals as goal
use Rattle.replay_run.proofs.MachineLines.{every_partition_goes_by_its_machine}

pub returns : goal.returns
returns c = every_partition_goes_by_its_machine
