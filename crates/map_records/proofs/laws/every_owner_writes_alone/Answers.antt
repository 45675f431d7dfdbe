use Rattle.map_records.proofs.laws.every_owner_writes_alone.Goals as goal
use Rattle.map_records.proofs.Locking.{owner_alone_writes}

pub returns : goal.returns
returns c = owner_alone_writes
