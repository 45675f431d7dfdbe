use Rattle.map_records.proofs.laws.every_refusal_changes_nothing.Goals as goal
use Rattle.map_records.proofs.Rows.{refusal_changes_nothing}

pub returns : goal.returns
returns c = refusal_changes_nothing
