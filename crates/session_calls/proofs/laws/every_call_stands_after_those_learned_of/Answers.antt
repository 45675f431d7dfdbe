use Rattle.session_calls.proofs.Learned.{stand_in_order, returned_in_order}
use Rattle.session_calls.proofs.laws.every_call_stands_after_those_learned_of.Goals as goal

pub returns-clause-started : goal.returns-clause-started
returns-clause-started g c place = stand_in_order g.T.Stands.key_of g.T.Served.call_of g.T.Served.tells place

pub returns-clause-returned : goal.returns-clause-returned
returns-clause-returned g c place = returned_in_order g.T.Stands.key_of g.T.Served.call_of g.T.Served.tells place
