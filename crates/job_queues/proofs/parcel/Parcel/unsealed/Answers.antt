use Rattle.std.proofs.Common.{arith}
use Rattle.job_queues.proofs.Parcels.{starts}
use Rattle.job_queues.proofs.parcel.Parcel.unsealed.Goals as goal

pub ruled-requires : goal.ruled-requires
ruled-requires g c = record { cap = omega arith; rule = starts _ }
