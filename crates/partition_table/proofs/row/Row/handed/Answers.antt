use Rattle.std.proofs.Common.{◌≡◌, rules}
use Rattle.partition_table.specs.Rows.{handed}
use Rattle.partition_table.proofs.RowLaws.{distinct-handed}
use Rattle.partition_table.proofs.row.Row.handed.Goals as goal

pub returns-clause-distinct : goal.returns-clause-distinct
returns-clause-distinct c =
    let row : c.next.result ≡ handed c.args.self.now c.args.from c.args.to = search rules in
    rw row (distinct-handed c.args.self.now c.args.from c.args.to)
