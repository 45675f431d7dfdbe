use Rattle.script_run.proofs.laws.every_service_serves_as_published.Goals as goal
use Rattle.script_run.proofs.MastersLaws.{every_service_serves_as_published}

pub returns : goal.returns
returns c = every_service_serves_as_published
