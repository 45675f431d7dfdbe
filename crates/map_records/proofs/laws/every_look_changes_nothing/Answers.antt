use Rattle.map_records.proofs.laws.every_look_changes_nothing.Goals as goal
use Rattle.map_records.proofs.Values.{look_changes_nothing}

pub returns : goal.returns
returns c = look_changes_nothing
