use Rattle.session_calls.proofs.WholeCalls.{ends_on_its_terms}
use Rattle.session_calls.proofs.laws.every_call_ends_on_its_terms.Goals as goal

pub returns : goal.returns
returns g c place = ends_on_its_terms g.T.Stands.key_of g.T.Served.call_of g.T.Served.tells place
