use Rattle.session_core.proofs.CallsAt.{numbered_call, placed_call, stated_call, fitting_call}
use Rattle.session_core.proofs.laws.calls_are_those_of_their_messages.Goals as goal

pub returns-clause-numbered : goal.returns-clause-numbered
returns-clause-numbered c = numbered_call

pub returns-clause-placed : goal.returns-clause-placed
returns-clause-placed c = placed_call

pub returns-clause-stated : goal.returns-clause-stated
returns-clause-stated c = stated_call

pub returns-clause-fits : goal.returns-clause-fits
returns-clause-fits c = fitting_call
