use Rattle.partition_protocol.proofs.laws.every_primary_knows_its_beginning.Goals as goal
use Rattle.partition_protocol.proofs.Beginnings.{every_primary_knows_its_beginning, every_catch_up_is_recent}

pub returns-clause-beginnings : goal.returns-clause-beginnings
returns-clause-beginnings g c = λ o. every_primary_knows_its_beginning o

pub returns-clause-catch_up : goal.returns-clause-catch_up
returns-clause-catch_up g c = λ o. every_catch_up_is_recent o
