-- Three wait, so there is a second one.
use Rattle.std.proofs.Common.{arith}
use Rattle.object_tests.proofs.waiters.waiters_leave_in_order.Goals as goal

pub take-requires : goal.take-requires
take-requires g c = omega (arith, c.in_ok-set.ensures)
