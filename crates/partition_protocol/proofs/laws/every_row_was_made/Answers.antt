use Rattle.partition_protocol.proofs.laws.every_row_was_made.Goals as goal
use Rattle.partition_protocol.proofs.MadeRows.{every_row_was_made, every_version_has_one_row}

pub returns-clause-made : goal.returns-clause-made
returns-clause-made g c = λ o. every_row_was_made o

pub returns-clause-one : goal.returns-clause-one
returns-clause-one g c = λ o. every_version_has_one_row o
