use Rattle.master_wire.proofs.WireLaws.{stay_apart}
use Rattle.master_wire.proofs.laws.spellings_stay_apart.Goals as goal

pub returns : goal.returns
returns c = stay_apart
