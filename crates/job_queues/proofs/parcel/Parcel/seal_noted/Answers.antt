use Rattle.job_queues.proofs.Parcels.{seals}
use Rattle.job_queues.proofs.parcel.Parcel.seal_noted.Goals as goal

pub another-requires-clause-rule : goal.another-requires-clause-rule
another-requires-clause-rule g c = rw (c.requires.first, c.requires.terms) (seals _ _ _)
