use Rattle.std.proofs.Common.{◌∙◌, ap}
use Rattle.job_queues.proofs.Parcels.{takes}
use Rattle.job_queues.proofs.parcel.Parcel.look.Goals as goal

pub pop_as-requires-clause-rule : goal.pop_as-requires-clause-rule
pop_as-requires-clause-rule g c = (rw (ap (λ h. h.side) c.end.view_is ∙ c.requires.receiver.1) (takes _ _ _), λ _ _ _ _. tt)

pub returns-in-Some-clause-done : goal.returns-in-Some-clause-done
returns-in-Some-clause-done g c = λ t e. c.in-Some.ensures.rule.1 t (ap (λ h. h.side) c.end.view_is ∙ e)
