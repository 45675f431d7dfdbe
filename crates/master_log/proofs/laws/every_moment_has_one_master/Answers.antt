use Rattle.master_log.proofs.Agreement.{at_most_one_is_master}
use Rattle.master_log.proofs.laws.every_moment_has_one_master.Goals as goal

pub returns : goal.returns
returns c = λ masters events stands m k n j lives other leads. at_most_one_is_master masters events stands m k n j lives other leads
