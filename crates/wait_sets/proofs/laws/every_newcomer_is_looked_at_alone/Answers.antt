use Rattle.wait_sets.specs.WaitSets.{is_its_turn}
use Rattle.wait_sets.proofs.Searches.{newcomer_alone}
use Rattle.wait_sets.proofs.laws.every_newcomer_is_looked_at_alone.Goals as goal

pub returns : goal.returns
returns c = λ settings s now waiters newcomer. newcomer_alone (is_its_turn settings s now) waiters newcomer
