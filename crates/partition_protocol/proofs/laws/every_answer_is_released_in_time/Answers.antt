use Rattle.partition_protocol.proofs.laws.every_answer_is_released_in_time.Goals as goal
use Rattle.partition_protocol.proofs.ReleaseRules.{every_held_answer_waits, every_release_is_in_order}

pub returns-clause-held : goal.returns-clause-held
returns-clause-held g c = λ o. every_held_answer_waits o

pub returns-clause-released : goal.returns-clause-released
returns-clause-released g c = λ o. every_release_is_in_order o
