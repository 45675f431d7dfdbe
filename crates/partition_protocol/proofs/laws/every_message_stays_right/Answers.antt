use Rattle.partition_protocol.proofs.laws.every_message_stays_right.Goals as goal
use Rattle.partition_protocol.proofs.Effects.{every_effect_leads}
use Rattle.partition_protocol.proofs.NamedStates.{every_named_state_stays, every_bridge_joins}

pub returns-clause-effects : goal.returns-clause-effects
returns-clause-effects g c = λ o. every_effect_leads o

pub returns-clause-states : goal.returns-clause-states
returns-clause-states g c = λ o. every_named_state_stays o

pub returns-clause-bridges : goal.returns-clause-bridges
returns-clause-bridges g c = λ o. every_bridge_joins o
