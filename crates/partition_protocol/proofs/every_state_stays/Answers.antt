-- The states that pairs name stay, bridges join two names of one state, and what is begun anew is empty.
use Rattle.partition_protocol.proofs.every_state_stays.Goals as goal
use Rattle.partition_protocol.proofs.Theorem.{every_state_stays, every_bridge_stays, every_beginning_is_empty}

pub returns-clause-states : goal.returns-clause-states
returns-clause-states g c = λ o. every_state_stays o

pub returns-clause-bridges : goal.returns-clause-bridges
returns-clause-bridges g c = λ o. every_bridge_stays o

pub returns-clause-beginnings : goal.returns-clause-beginnings
returns-clause-beginnings g c = λ o. every_beginning_is_empty o
