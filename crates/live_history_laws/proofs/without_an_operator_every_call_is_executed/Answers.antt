use Rattle.live_history_laws.proofs.Uncontrolled.{first_row_stands, unreopened, executed}
use Rattle.live_history_laws.proofs.without_an_operator_every_call_is_executed.Goals as goal

pub returns-clause-row : goal.returns-clause-row
returns-clause-row c plan history none = first_row_stands plan history none

pub returns-clause-unreopened : goal.returns-clause-unreopened
returns-clause-unreopened c plan history none = unreopened plan history none

pub returns-clause-executed : goal.returns-clause-executed
returns-clause-executed c plan history id request now some none = executed plan history none some id request now
