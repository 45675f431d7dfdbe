use Rattle.member_wire.proofs.WireLaws.{lengths_fit}
use Rattle.member_wire.proofs.laws.spelled_lengths_fit.Goals as goal

pub returns : goal.returns
returns c = lengths_fit
