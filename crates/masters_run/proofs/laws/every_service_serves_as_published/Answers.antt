-- It is the law of the lemmas.
use Rattle.masters_run.proofs.laws.every_service_serves_as_published.Goals as goal
use Rattle.masters_run.proofs.RuledLaws.{every_service_serves_as_published}

pub returns : goal.returns
returns c = every_service_serves_as_published
