use Rattle.partition_table.proofs.RowLaws.{distinct-initial_row}
use Rattle.partition_table.proofs.row.Row.initial.Goals as goal

pub returns-clause-distinct : goal.returns-clause-distinct
returns-clause-distinct c = rw c.in_ok-members.ensures (distinct-initial_row c.args.partition c.args.members c.args.backups)
