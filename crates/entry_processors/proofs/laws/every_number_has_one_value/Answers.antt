use Rattle.entry_processors.proofs.laws.every_number_has_one_value.Goals as goal
use Rattle.entry_processors.proofs.NumberValues.{is_spelled_one_way}

pub returns-clause-single : goal.returns-clause-single
returns-clause-single c = is_spelled_one_way
