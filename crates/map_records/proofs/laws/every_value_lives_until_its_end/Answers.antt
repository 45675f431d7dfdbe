use Rattle.map_records.proofs.laws.every_value_lives_until_its_end.Goals as goal
use Rattle.map_records.proofs.Values.{lives_until_its_end}

pub returns : goal.returns
returns c = lives_until_its_end
