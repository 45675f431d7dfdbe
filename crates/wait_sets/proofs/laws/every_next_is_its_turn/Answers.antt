use Rattle.wait_sets.proofs.laws.every_next_is_its_turn.Goals as goal
use Rattle.wait_sets.proofs.Places.{every_next_is_its_turn}

pub returns : goal.returns
returns c = every_next_is_its_turn
