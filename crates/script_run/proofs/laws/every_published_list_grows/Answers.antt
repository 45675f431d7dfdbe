use Rattle.script_run.proofs.laws.every_published_list_grows.Goals as goal
use Rattle.script_run.proofs.MastersLaws.{every_published_list_grows}

pub returns : goal.returns
returns c = every_published_list_grows
