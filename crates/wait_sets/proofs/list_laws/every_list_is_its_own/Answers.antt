use Rattle.wait_sets.proofs.list_laws.every_list_is_its_own.Goals as goal
use Rattle.wait_sets.proofs.Slots.{every_list_is_its_own}

pub returns : goal.returns
returns c = every_list_is_its_own
