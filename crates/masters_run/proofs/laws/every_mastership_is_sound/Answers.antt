-- It is the law of the lemmas.
use Rattle.masters_run.proofs.laws.every_mastership_is_sound.Goals as goal
use Rattle.masters_run.proofs.RuledLaws.{every_mastership_is_sound}

pub returns : goal.returns
returns c = every_mastership_is_sound
