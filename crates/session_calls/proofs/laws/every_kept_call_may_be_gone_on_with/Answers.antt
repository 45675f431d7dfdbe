use Rattle.session_calls.proofs.WholeCalls.{kept_may_go_on, still_kept_may_go_on, handed_over_may_finish}
use Rattle.session_calls.proofs.laws.every_kept_call_may_be_gone_on_with.Goals as goal

pub returns-clause-kept : goal.returns-clause-kept
returns-clause-kept g c place = kept_may_go_on g.T.Stands.key_of g.T.Served.call_of g.T.Served.tells place

pub returns-clause-still : goal.returns-clause-still
returns-clause-still g c place = still_kept_may_go_on g.T.Stands.key_of g.T.Served.call_of g.T.Served.tells place

pub returns-clause-handed_over : goal.returns-clause-handed_over
returns-clause-handed_over g c place = handed_over_may_finish g.T.Stands.key_of g.T.Served.call_of g.T.Served.tells place
