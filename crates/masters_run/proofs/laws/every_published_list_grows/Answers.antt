-- It is the law of the lemmas.
use Rattle.masters_run.proofs.laws.every_published_list_grows.Goals as goal
use Rattle.masters_run.proofs.RuledLaws.{every_published_list_grows}

pub returns : goal.returns
returns c = every_published_list_grows
