use Rattle.live_history_laws.proofs.Stored.{left_if_unreopened, left_if_begun, nothing_lost}
use Rattle.live_history_laws.proofs.what_is_stored_is_what_the_history_leaves.Goals as goal

pub returns-clause-unreopened : goal.returns-clause-unreopened
returns-clause-unreopened c plan history name some none still = left_if_unreopened plan history name some none still

pub returns-clause-begun : goal.returns-clause-begun
returns-clause-begun c plan history name first some begun = left_if_begun plan history name some first begun

pub returns-clause-lost : goal.returns-clause-lost
returns-clause-lost c plan history name some lost = nothing_lost plan history name some lost
