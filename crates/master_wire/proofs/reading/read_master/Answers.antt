use Rattle.std.proofs.Common.{arith}
use Rattle.master_wire.proofs.WireLaws.{is_found, is_only}
use Rattle.master_wire.proofs.reading.read_master.Goals as goal

pub returns-clause-found : goal.returns-clause-found
returns-clause-found c = is_found c.args.bytes.now c.read_all.result (λ i. omega (arith, c.type_inv.bytes i)) c.read_all.ensures

pub returns-clause-only : goal.returns-clause-only
returns-clause-only c = is_only c.args.bytes.now c.read_all.result c.read_all.ensures
