use Rattle.session_calls.proofs.WholeCalls.{started_may_finish, unfinished_may_finish}
use Rattle.session_calls.proofs.laws.every_started_call_may_be_finished.Goals as goal

pub returns-clause-started : goal.returns-clause-started
returns-clause-started g c place = started_may_finish g.T.Stands.key_of g.T.Served.call_of place

pub returns-clause-unfinished : goal.returns-clause-unfinished
returns-clause-unfinished g c place = unfinished_may_finish g.T.Stands.key_of place
