use Rattle.map_records.proofs.laws.every_entry_stays_whole.Goals as goal
use Rattle.map_records.proofs.Values.{stays_whole}

pub returns : goal.returns
returns c = stays_whole
