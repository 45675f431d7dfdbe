use Rattle.std.proofs.Common.{length}
use Rattle.primary_hold.proofs.acks.+acked_by.Given as goal

abbrev pub decreases-acked_by : goal.decreases-acked_by
decreases-acked_by l = length l.acks.now
