use Rattle.session_calls.proofs.WholeCalls.{ends_as_it_was_started}
use Rattle.session_calls.proofs.laws.every_call_ends_as_it_was_started.Goals as goal

pub returns : goal.returns
returns g c place = ends_as_it_was_started g.T.Stands.key_of g.T.Served.call_of g.T.Served.tells place
