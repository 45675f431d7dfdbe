use Rattle.partition_protocol.proofs.laws.every_row_goes_by_rule.Goals as goal
use Rattle.partition_protocol.proofs.RowRules.{every_known_row_goes_on, every_loss_is_told, every_row_is_lost_by_rule}
use Rattle.partition_protocol.proofs.LostRows.{every_row_is_lost_if_empty}

pub returns-clause-known : goal.returns-clause-known
returns-clause-known g c = λ o. every_known_row_goes_on o

pub returns-clause-told : goal.returns-clause-told
returns-clause-told g c = λ o. every_loss_is_told o

pub returns-clause-lost : goal.returns-clause-lost
returns-clause-lost g c = λ o. every_row_is_lost_by_rule o

pub returns-clause-empty : goal.returns-clause-empty
returns-clause-empty g c = λ o. every_row_is_lost_if_empty o
