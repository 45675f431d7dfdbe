use Rattle.wait_sets.proofs.list_laws.every_closing_empties_lists.Goals as goal
use Rattle.wait_sets.proofs.Partitions.{every_closing_empties_lists}

pub returns : goal.returns
returns c = every_closing_empties_lists
