use Rattle.std.proofs.Common.{◌∙◌}
use Rattle.job_queues.proofs.Parcels.{takes}
use Rattle.job_queues.proofs.parcel.Parcel.wait.Goals as goal

pub pop_as-requires-clause-rule : goal.pop_as-requires-clause-rule
pop_as-requires-clause-rule g c = (rw (c.loop.invariant.1 ∙ c.requires.receiver.1) (takes _ _ _), λ _ _ _ _. tt)

pub returns-in-Some-pop_as : goal.returns-in-Some-pop_as
returns-in-Some-pop_as g c = λ t e. c.in-Some-pop_as.ensures.rule.1 t (c.loop.invariant.1 ∙ e)
