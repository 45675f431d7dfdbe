use Rattle.master_wire.proofs.WireLaws.{reading_again}
use Rattle.master_wire.proofs.laws.what_is_written_is_read.Goals as goal

pub returns : goal.returns
returns c = reading_again
