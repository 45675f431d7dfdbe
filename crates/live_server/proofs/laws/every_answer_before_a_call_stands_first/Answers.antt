use Rattle.live_server.proofs.Timely.{answers_stand_first}
use Rattle.live_server.proofs.laws.every_answer_before_a_call_stands_first.Goals as goal

pub returns : goal.returns
returns g c place given journal passes book keeps = answers_stand_first g.T.Stands.key_of g.T.Served.tells g.T.Served.call_of place given journal passes book keeps
