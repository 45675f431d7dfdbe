use Rattle.partition_protocol.proofs.laws.every_history_is_of_the_log.Goals as goal
use Rattle.partition_protocol.proofs.HistorySizes.{every_history_is_of_the_log, every_logged_call_arrived}

pub returns-clause-histories : goal.returns-clause-histories
returns-clause-histories g c = λ o. every_history_is_of_the_log o

pub returns-clause-arrivals : goal.returns-clause-arrivals
returns-clause-arrivals g c = λ o. every_logged_call_arrived o
