use Rattle.live_server.proofs.Joined.{stays_in_order}
use Rattle.live_server.proofs.laws.every_noted_order_stays_so.Goals as goal

pub returns : goal.returns
returns g c = stays_in_order g.T.Stands.key_of
