use Rattle.member_wire.proofs.SaidAgain.{message_of-said_with}
use Rattle.member_wire.proofs.laws.what_is_written_is_said.Goals as goal

pub returns : goal.returns
returns c = message_of-said_with
