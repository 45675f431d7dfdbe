use Rattle.std.proofs.Common.{ap, ◌∙◌}
use Rattle.job_queues.proofs.Parcels.{puts, learns}
use Rattle.job_queues.proofs.parcel.Parcel.put.Goals as goal

pub push_as-requires-clause-rule : goal.push_as-requires-clause-rule
push_as-requires-clause-rule g c = let done = c.requires.done in let e = ap (λ h. h.side) c.end.view_is ∙ done.1 in (rw e (puts _ _ _ _ _ done.2), rw e (learns _ _ _))
