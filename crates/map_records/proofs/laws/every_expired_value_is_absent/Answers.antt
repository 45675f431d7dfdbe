use Rattle.map_records.proofs.laws.every_expired_value_is_absent.Goals as goal
use Rattle.map_records.proofs.Rows.{expired_is_absent}

pub returns : goal.returns
returns c = expired_is_absent
