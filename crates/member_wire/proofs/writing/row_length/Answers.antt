use Rattle.std.proofs.Common.{arith}
use Rattle.member_wire.proofs.Lengths.{length-row_bytes}
use Rattle.member_wire.proofs.writing.row_length.Goals as goal

pub returns-clause-bytes : goal.returns-clause-bytes
returns-clause-bytes c = omega (arith, length-row_bytes c.args.row.now, c.len-count.ensures)
