use Rattle.std.proofs.Common.{◌≡◌, rules}
use Rattle.partition_table.specs.Rows.{with_joiner}
use Rattle.partition_table.proofs.RowLaws.{distinct-with_joiner}
use Rattle.partition_table.proofs.row.Row.with_joiner.Goals as goal

pub returns-clause-distinct : goal.returns-clause-distinct
returns-clause-distinct c =
    let row : c.next.result ≡ with_joiner c.args.self.now c.args.member = search rules in
    rw row (distinct-with_joiner c.args.self.now c.args.member)
