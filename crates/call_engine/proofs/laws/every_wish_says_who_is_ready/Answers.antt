use Rattle.call_engine.proofs.Wishes.{ready_where_granted}
use Rattle.call_engine.proofs.laws.every_wish_says_who_is_ready.Goals as goal

pub returns : goal.returns
returns c = ready_where_granted
