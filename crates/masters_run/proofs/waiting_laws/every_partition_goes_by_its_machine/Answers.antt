-- It is the law of the lemmas.
use Rattle.masters_run.proofs.waiting_laws.every_partition_goes_by_its_machine.Goals as goal
use Rattle.masters_run.proofs.RuledLines.{every_partition_goes_by_its_machine}

pub returns : goal.returns
returns c = every_partition_goes_by_its_machine
