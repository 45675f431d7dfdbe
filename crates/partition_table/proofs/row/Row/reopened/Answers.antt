use Rattle.partition_table.proofs.RowLaws.{distinct-reopened}
use Rattle.partition_table.proofs.row.Row.reopened.Goals as goal

pub returns-clause-distinct : goal.returns-clause-distinct
returns-clause-distinct c = rw c.in_ok-begun_by.ensures (distinct-reopened c.args.self.now c.args.members.now)
