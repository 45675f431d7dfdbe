use Rattle.near_several.proofs.every_hit_of_a_client_is_after.Goals as goal
use Rattle.near_several.proofs.Theorem.{every_hit_of_a_client_is_after}

pub returns : goal.returns
returns g c = λ o l. every_hit_of_a_client_is_after o l
