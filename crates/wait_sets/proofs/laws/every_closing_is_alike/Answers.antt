use Rattle.wait_sets.proofs.laws.every_closing_is_alike.Goals as goal
use Rattle.wait_sets.proofs.Places.{every_closing_is_alike}

pub returns : goal.returns
returns c = every_closing_is_alike
